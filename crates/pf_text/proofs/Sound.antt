-- What the automaton takes is spelled so, and what it rejects has its reason.
use Rattle.std.proofs.Common.{◌≡◌, ◌≢◌, ℕ, zero, suc, ◌+◌, ◌-◌, ◌*◌, ◌<◌, Bool, true, false, List, [], ◌∷◌, ◌++◌, map, length, refl, sym, ap, ◌∙◌, arith, subst}
use Rattle.std.proofs.Common.{inl, inr, Ok, Err}
use Rattle.std.specs.Prelude.{Option, Some, None, nat_lt, ◌==◌, if◌then◌else◌, find}
use Rattle.std.proofs.lemmas.Bool.{eqb-true}
use Rattle.std.proofs.lemmas.Bool.Decides.{nat_tests}
use Rattle.std.proofs.lemmas.Grind.{fold-append}
use Rattle.std.proofs.lemmas.List.{append_assoc, append-nil, map_push, length_push}
use Rattle.pf_values.specs.declared.limits.TheConstants.{MAX_NUMBER}
use Rattle.pf_values.specs.declared.conversions.Conv.{Conv}
use Rattle.pf_values.specs.declared.flags.Flag.{Flag}
use Rattle.pf_values.specs.declared.flags.FlagSet.{FlagSet}
use Rattle.pf_values.specs.declared.lengths.Length.{Length}
use Rattle.pf_values.specs.declared.lengths.Length.TheVariants as lengths
use Rattle.pf_values.specs.declared.refusals.RefusalKind.{RefusalKind}
use Rattle.pf_values.specs.declared.refusals.RefusalKind.TheVariants.{NulByte, Truncated, Unexpected, BadPercent, Star, Numbered, WidthTooLarge}
use Rattle.pf_values.specs.declared.refusals.RefusalKind.TheVariants.{PrecisionTooLarge, Float, TooLong}
use Rattle.pf_values.specs.meaning.Conversions.{conv_letter}
use Rattle.pf_values.specs.meaning.Defined.{is_above_limit, refused_as, breaks, first_broken, undefined_kinds}
use Rattle.pf_values.specs.meaning.Flags.{with_flag, no_flags, flag_byte}
use Rattle.pf_values.specs.meaning.Items.{Byte, Directive, IsReadAs}
use Rattle.pf_values.specs.meaning.Lengths.{length_letters}
use Rattle.pf_values.specs.meaning.Refusals.{
  HasReason,
  EndsUndefined,
  IsToWidth,
  IsToPrecision,
  flags_text,
}
use Rattle.pf_values.specs.meaning.Specification.{Specification}
use Rattle.pf_values.specs.Directives.{width_given}
use Rattle.pf_values.specs.meaning.Spelling.{Spells, SpellsWidth, SpellsPrecision}
use Rattle.pf_values.specs.meaning.Text.{Text}
use Rattle.pf_text.specs.declared.scanner.Step.{Step}
use Rattle.pf_text.specs.declared.scanner.Step.TheVariants as steps
use Rattle.pf_text.specs.Stages.{State}
use Rattle.pf_text.specs.Stages.{Between, Opened, Flags, Width, Point, Precision, Modifier}
use Rattle.pf_text.specs.Fronts.{IsFront, IsAt}
use Rattle.pf_text.specs.History.{IsLiteral}
use Rattle.pf_text.specs.Letters.{flag_of, modifier_of, conv_of, refused_letter}
use Rattle.pf_text.specs.States.{Next, next, is_digit, after_flags, flag_or_after, after_number, modifier_or_end, end_at, end_by, judgement_of, judged_as}
use Rattle.pf_text.specs.States.{width_with, precision_with, after_modifier}
use Rattle.pf_text.proofs.NumberDigits.{another_digit, digit_of, digits_push, glyph_push, one_digit}

-- what a step says of the part that the byte goes on with
abbrev pub LeadsTo : Text → ℕ → State → Step → Type 0
LeadsTo part byte state steps.More = IsAt state (part ++ byte ∷ [])
LeadsTo part byte state (steps.Byte b) = (state ≡ Between) × IsReadAs (part ++ byte ∷ []) (Byte b) × ((b ≡ byte) × IsLiteral byte)
LeadsTo part byte state steps.Percent = (state ≡ Between) × IsReadAs (part ++ byte ∷ []) (Byte 37)
LeadsTo part byte state (steps.Directive s) = (state ≡ Between) × IsReadAs (part ++ byte ∷ []) (Directive s)

abbrev pub Judges : Text → ℕ → Next → Type 0
Judges part byte (Ok p) = LeadsTo part byte p.0 p.1
Judges part byte (Err kind) = HasReason part byte kind

pub byte_of_flag : (byte : ℕ) (flag : Flag) → flag_of byte ≡ Some flag → byte ≡ flag_byte flag
byte_of_flag byte flag e = grind (arith, nat_tests)

pub byte_of_conv : (byte : ℕ) (conv : Conv) → conv_of byte ≡ Some conv → byte ≡ conv_letter conv
byte_of_conv byte conv e = grind (arith, nat_tests)

-- a letter that begins a modifier is one
letter_of : (byte : ℕ) (length : Length) → modifier_of byte ≡ Some length → (length_letters length ≡ byte ∷ []) × (length ≢ lengths.None)
letter_of byte lengths.None e = absurd (grind (arith, nat_tests))
letter_of byte lengths.Hh e = absurd (grind (arith, nat_tests))
letter_of byte lengths.Ll e = absurd (grind (arith, nat_tests))
letter_of byte lengths.H e = let same : 104 ≡ byte = grind (arith, nat_tests) in (ap (λ b. b ∷ []) same, λ other. cc)
letter_of byte lengths.L e = let same : 108 ≡ byte = grind (arith, nat_tests) in (ap (λ b. b ∷ []) same, λ other. cc)
letter_of byte lengths.J e = let same : 106 ≡ byte = grind (arith, nat_tests) in (ap (λ b. b ∷ []) same, λ other. cc)
letter_of byte lengths.Z e = let same : 122 ≡ byte = grind (arith, nat_tests) in (ap (λ b. b ∷ []) same, λ other. cc)
letter_of byte lengths.T e = let same : 116 ≡ byte = grind (arith, nat_tests) in (ap (λ b. b ∷ []) same, λ other. cc)

eqb_no : (a b : ℕ) → (a == b) ≡ false → a ≢ b
eqb_no a b e = grind (arith, nat_tests)

no_flag_zero : (byte : ℕ) → flag_of byte ≡ None → is_digit byte ≡ true → 48 < byte
no_flag_zero byte h e = grind (arith, nat_tests)

pub SpellsWidth-push : (t : Text) (n byte : ℕ) → is_digit byte ≡ true → SpellsWidth t (Some n) → SpellsWidth (t ++ byte ∷ []) (Some (10 * n + (byte - 48)))
SpellsWidth-push t n byte d h =
    let digit = digit_of byte d in
    let ds = h.1.0 in (
      omega (arith, h.0),
      (ds ++ (byte - 48) ∷ [], another_digit n (byte - 48) ds h.0 digit.0 h.1.1, ap (λ u. u ++ byte ∷ []) h.1.2 ∙ glyph_push ds byte d),
    )

pub SpellsWidth-one : (byte : ℕ) → is_digit byte ≡ true → 48 < byte → SpellsWidth (byte ∷ []) (Some (byte - 48))
SpellsWidth-one byte d low =
    let digit = digit_of byte d in
    let some : 0 < byte - 48 = omega arith in (some, ((byte - 48) ∷ [], one_digit (byte - 48) some digit.0, ap (λ b. b ∷ []) (sym digit.1)))

pub SpellsPrecision-push : (t : Text) (n byte : ℕ) → is_digit byte ≡ true → SpellsPrecision t (Some n)
    → SpellsPrecision (t ++ byte ∷ []) (Some (10 * n + (byte - 48)))
SpellsPrecision-push t n byte d h =
    let digit = digit_of byte d in
    let ds = h.0 in (ds ++ (byte - 48) ∷ [], digits_push n (byte - 48) ds digit.0 h.1, ap (λ u. u ++ byte ∷ []) h.2 ∙ ap (λ u. 46 ∷ u) (glyph_push ds byte d))

pub SpellsPrecision-point : SpellsPrecision (46 ∷ []) (Some 0)
SpellsPrecision-point = ([], record { below = tt; sum = refl }, refl)

-- a text that ends after flags, after a width, after a precision
whole_flags : {part : Text} {set : FlagSet} (h : IsFront part set None None lengths.None) → part ≡ flags_text h.flags
whole_flags {part} {set} h = h.whole ∙ ap (λ d. 37 ∷ map flag_byte h.flags ++ d ++ h.precision_text ++ []) h.width_is
    ∙ ap (λ d. 37 ∷ map flag_byte h.flags ++ [] ++ d ++ []) h.precision_is ∙ simp append-nil

whole_width : {part : Text} {set : FlagSet} {width : Option ℕ} (h : IsFront part set width None lengths.None) → part ≡ flags_text h.flags ++ h.width_text
whole_width {part} {set} {width} h = h.whole ∙ ap (λ d. 37 ∷ map flag_byte h.flags ++ h.width_text ++ d ++ []) h.precision_is ∙ simp append-nil

whole_point : {part : Text} {set : FlagSet} {width precision : Option ℕ} (h : IsFront part set width precision lengths.None)
    → part ≡ flags_text h.flags ++ h.width_text ++ h.precision_text
whole_point h = h.whole ∙ simp append-nil

to_width : {part : Text} {set : FlagSet} {width : Option ℕ} → IsFront part set width None lengths.None → IsToWidth part width
to_width h = record { flags = h.flags; digits = h.width_text; digits_are = h.width_is; whole = whole_width h }

to_precision : {part : Text} {set : FlagSet} {width precision : Option ℕ} → IsFront part set width precision lengths.None → IsToPrecision part precision
to_precision {part} {set} {width} {precision} h =
    record {
      width = width;
      before = flags_text h.flags ++ h.width_text;
      digits = h.precision_text;
      before_is = record { flags = h.flags; digits = h.width_text; digits_are = h.width_is; whole = refl };
      digits_are = h.precision_is;
      whole = whole_point h;
    }

nil_two : (t : Text) → t ≡ t ++ [] ++ []
nil_two t = sym (append-nil (t ++ []) ∙ append-nil t)

nil_three : (t : Text) → t ≡ t ++ [] ++ [] ++ []
nil_three t = nil_two t ∙ sym (append-nil (t ++ [] ++ []))

nil_one : (t : Text) → t ≡ t ++ []
nil_one t = sym (append-nil t)

pub given_same : (t : Text) (width : Option ℕ) → SpellsWidth t width → (width_given width ≡ width) × (width ≢ Some 0)
given_same t None h = (refl, λ e. cc)
given_same t (Some zero) h = absurd (omega (arith, h.0))
given_same t (Some (suc n)) h = (refl, λ e. cc)

pub find_holds : {X : Type 0} (p : X → Bool) (xs : List X) (x : X) → find p xs ≡ Some x → p x ≡ true
find_holds p [] x e = cc
find_holds p (y ∷ ys) x e = go (p y) refl (find_holds p ys x) e where
  go : (b : Bool) → p y ≡ b → (find p ys ≡ Some x → p x ≡ true) → (if b then Some y else find p ys) ≡ Some x → p x ≡ true
  go true h later g = let same : y ≡ x = cc in rw (← same) h
  go false h later g = later g

-- a kind that the finished specification gives
undefined_reason : (part : Text) (byte : ℕ) (s : Specification) (kind : RefusalKind) → is_above_limit s.width ≡ false → is_above_limit s.precision ≡ false
    → breaks s kind ≡ true → EndsUndefined part byte kind → HasReason part byte kind
undefined_reason part byte s NulByte w p b h = cc
undefined_reason part byte s Truncated w p b h = cc
undefined_reason part byte s Unexpected w p b h = tt
undefined_reason part byte s BadPercent w p b h = cc
undefined_reason part byte s Star w p b h = cc
undefined_reason part byte s Numbered w p b h = cc
undefined_reason part byte s WidthTooLarge w p b h = cc
undefined_reason part byte s PrecisionTooLarge w p b h = cc
undefined_reason part byte s Float w p b h = cc
undefined_reason part byte s TooLong w p b h = cc
undefined_reason part byte s kind w p b h = inr h

module _ (part : Text) (byte : ℕ) where
  choose : (c : Bool) (x y : Next) → (c ≡ true → Judges part byte x) → (c ≡ false → Judges part byte y) → Judges part byte (if c then x else y)
  choose true x y f g = f refl
  choose false x y f g = g refl

  choose_kind : (c : Bool) (k l : RefusalKind) → (c ≡ true → HasReason part byte k) → HasReason part byte l → HasReason part byte (if c then k else l)
  choose_kind true k l f g = f refl
  choose_kind false k l f g = g

  is_byte : (k : ℕ) → (byte == k) ≡ true → k ≡ byte
  is_byte k e = sym (eqb-true byte k e)

  reason_letter : HasReason part byte (refused_letter byte)
  reason_letter =
      choose_kind (byte == 0) _ _ (λ e. eqb-true byte 0 e) (choose_kind (byte == 37) _ _ (λ e. eqb-true byte 37 e)
      (choose_kind (byte == 97) _ _ (λ e. inl (0, omega arith, is_byte 97 e)) (choose_kind (byte == 65) _ _ (λ e. inl (1, omega arith, is_byte 65 e))
      (choose_kind (byte == 101) _ _ (λ e. inl (2, omega arith, is_byte 101 e)) (choose_kind (byte == 69) _ _ (λ e. inl (3, omega arith, is_byte 69 e))
      (choose_kind (byte == 102) _ _ (λ e. inl (4, omega arith, is_byte 102 e)) (choose_kind (byte == 70) _ _ (λ e. inl (5, omega arith, is_byte 70 e))
      (choose_kind (byte == 103) _ _ (λ e. inl (6, omega arith, is_byte 103 e)) (choose_kind (byte == 71) _ _ (λ e. inl (7, omega arith, is_byte 71 e))
      (choose_kind (byte == 112) _ _ (λ e. inl (0, omega arith, is_byte 112 e)) (choose_kind (byte == 110) _ _ (λ e. inl (0, omega arith, is_byte 110 e))
      (choose_kind (byte == 67) _ _ (λ e. inl (0, omega arith, is_byte 67 e))
      (choose_kind (byte == 83) _ _ (λ e. inl (1, omega arith, is_byte 83 e)) tt)))))))))))))

  judge_spelled : (s : Specification) → Spells (part ++ byte ∷ []) s → s.width ≢ Some 0 → is_above_limit s.width ≡ false → is_above_limit s.precision ≡ false
      → Judges part byte (judgement_of s (refused_as s))
  judge_spelled s spells some w p = go (refused_as s) refl where
    go : (o : Option RefusalKind) → refused_as s ≡ o → Judges part byte (judgement_of s o)
    go None e = (refl, (spells, record { width = some; allowed = e }))
    go (Some kind) e =
        let skipped : refused_as s ≡ first_broken undefined_kinds s = rw (w, p) refl in
        let first : first_broken undefined_kinds s ≡ Some kind = sym skipped ∙ e in
        undefined_reason part byte s kind w p (find_holds (breaks s) undefined_kinds kind first) (s, spells, first)

  module _ (set : FlagSet) (width precision : Option ℕ) (length : Length) (h : IsFront part set width precision length) where
    judge_conv : (conv : Conv) → conv_of byte ≡ Some conv → Judges part byte (judged_as set width precision length conv)
    judge_conv conv e =
        let same = given_same h.width_text width h.width_is in
        let letter = byte_of_conv byte conv e in
        let s : Option ℕ → Specification = λ w. record { flags = set; width = w; precision = precision; length = length; conv = conv } in
        let spells : Spells (part ++ byte ∷ []) (s width) = record {
          flags = h.flags;
          width = h.width_text;
          precision = h.precision_text;
          flags_are = h.set_is;
          width_is = h.width_is;
          precision_is = h.precision_is;
          whole = ap (λ t. t ++ byte ∷ []) h.whole ∙ ap (λ b. 37 ∷ map flag_byte h.flags ++ h.width_text ++ h.precision_text ++ length_letters length ++ b ∷
              []) letter;
        } in
        subst (λ w. Judges part byte (judgement_of (s w) (refused_as (s w)))) (sym same.0) (judge_spelled (s width) spells same.1 h.width_fits h.precision_fits)

    judge_ending : Judges part byte (end_at set width precision length byte)
    judge_ending = go (conv_of byte) refl where
      go : (o : Option Conv) → conv_of byte ≡ o → Judges part byte (end_by set width precision length byte o)
      go None e = reason_letter
      go (Some conv) e = judge_conv conv e

  module _ (set : FlagSet) (width precision : Option ℕ) (h : IsFront part set width precision lengths.None) where
    with_modifier : (length : Length) → length_letters length ≡ byte ∷ [] → IsFront (part ++ byte ∷ []) set width precision length
    with_modifier length e =
        record {
          flags = h.flags;
          width_text = h.width_text;
          precision_text = h.precision_text;
          set_is = h.set_is;
          width_is = h.width_is;
          precision_is = h.precision_is;
          width_fits = h.width_fits;
          precision_fits = h.precision_fits;
          whole = ap (λ t. t ++ byte ∷ []) (whole_point h) ∙ ap (λ l. flags_text h.flags ++ h.width_text ++ h.precision_text ++ l) (sym e);
        }

    judge_after_number : Judges part byte (after_number set width precision byte)
    judge_after_number = go (modifier_of byte) refl where
      go : (o : Option Length) → modifier_of byte ≡ o → Judges part byte (modifier_or_end set width precision byte o)
      go (Some length) e = let letter = letter_of byte length e in (with_modifier length letter.0, letter.1)
      go None e = choose (byte == 76) _ _ (λ b. inr (eqb-true byte 76 b, (precision, to_precision h))) (λ _. judge_ending set width precision lengths.None h)

  -- a point after flags or a width
  with_point : (set : FlagSet) (width : Option ℕ) → IsFront part set width None lengths.None → (byte == 46) ≡ true → IsAt (Point set width) (part ++ byte ∷ [])
  with_point set width h e =
      let same = eqb-true byte 46 e in (
        record {
          flags = h.flags;
          width_text = h.width_text;
          precision_text = 46 ∷ [];
          set_is = h.set_is;
          width_is = h.width_is;
          precision_is = SpellsPrecision-point;
          width_fits = h.width_fits;
          precision_fits = refl;
          whole = ap (λ t. t ++ byte ∷ []) (whole_width h) ∙ ap (λ b. flags_text h.flags ++ h.width_text ++ b ∷ []) same
              ∙ nil_one (flags_text h.flags ++ h.width_text ++ 46 ∷ []);
        },
        refl,
      )

  module _ (set : FlagSet) (h : IsFront part set None None lengths.None) where
    with_another_flag : (flag : Flag) → flag_of byte ≡ Some flag → IsAt (Flags (with_flag set flag)) (part ++ byte ∷ [])
    with_another_flag flag e =
        let same = byte_of_flag byte flag e in (
          record {
            flags = h.flags ++ flag ∷ [];
            width_text = [];
            precision_text = [];
            set_is = ap (λ f. with_flag f flag) h.set_is ∙ sym (fold-append with_flag no_flags h.flags (flag ∷ []));
            width_is = refl;
            precision_is = refl;
            width_fits = refl;
            precision_fits = refl;
            whole = ap (λ t. t ++ byte ∷ []) (whole_flags h) ∙ ap (λ b. flags_text h.flags ++ b ∷ []) same
                ∙ ap (λ t. 37 ∷ t) (sym (map_push flag_byte h.flags flag)) ∙ nil_three (flags_text (h.flags ++ flag ∷ []));
          },
          λ e. omega (arith, ap length e, length_push h.flags flag),
        )

    with_first_digit : is_digit byte ≡ true → 48 < byte → IsAt (Width set (byte - 48)) (part ++ byte ∷ [])
    with_first_digit d low =
        let digit = digit_of byte d in
        record {
          flags = h.flags;
          width_text = byte ∷ [];
          precision_text = [];
          set_is = h.set_is;
          width_is = SpellsWidth-one byte d low;
          precision_is = refl;
          width_fits = grind (arith, nat_tests, digit.0);
          precision_fits = refl;
          whole = ap (λ t. t ++ byte ∷ []) (whole_flags h) ∙ nil_two (flags_text h.flags ++ byte ∷ []);
        }

    judge_after_flags : Judges part byte (after_flags set byte)
    judge_after_flags = go (flag_of byte) refl where
      go : (o : Option Flag) → flag_of byte ≡ o → Judges part byte (flag_or_after set byte o)
      go (Some flag) e = with_another_flag flag e
      go None e =
          choose (is_digit byte) _ _ (λ d. with_first_digit d (no_flag_zero byte e d)) (λ _. choose (byte == 46) _ _ (with_point set None h)
          (λ _. choose (byte == 42) _ _ (λ b. (eqb-true byte 42 b, inl (h.flags, whole_flags h))) (λ _. judge_after_number set None None h)))

  module _ (set : FlagSet) (n : ℕ) (h : IsFront part set (Some n) None lengths.None) where
    longer_width : part ++ byte ∷ [] ≡ flags_text h.flags ++ (h.width_text ++ byte ∷ [])
    longer_width = ap (λ t. t ++ byte ∷ []) (whole_width h) ∙ append_assoc (flags_text h.flags) h.width_text (byte ∷ [])

    judge_widened : is_digit byte ≡ true → Judges part byte (width_with set n (byte - 48))
    judge_widened d =
        choose (nat_lt MAX_NUMBER (10 * n + (byte - 48))) _ _
        (λ e. let above : MAX_NUMBER < 10 * n + (byte - 48) = grind (arith, nat_tests) in (
          10 * n + (byte - 48),
          above,
          record { flags = h.flags; digits = h.width_text ++ byte ∷ []; digits_are = SpellsWidth-push h.width_text n byte d h.width_is; whole = longer_width },
        ))
        (λ e. record {
          flags = h.flags;
          width_text = h.width_text ++ byte ∷ [];
          precision_text = [];
          set_is = h.set_is;
          width_is = SpellsWidth-push h.width_text n byte d h.width_is;
          precision_is = refl;
          width_fits = e;
          precision_fits = refl;
          whole = longer_width ∙ nil_two (flags_text h.flags ++ (h.width_text ++ byte ∷ []));
        })

  module _ (set : FlagSet) (width : Option ℕ) (n : ℕ) (h : IsFront part set width (Some n) lengths.None) where
    longer_point : part ++ byte ∷ [] ≡ flags_text h.flags ++ h.width_text ++ (h.precision_text ++ byte ∷ [])
    longer_point = ap (λ t. t ++ byte ∷ []) (whole_point h) ∙ append_assoc (flags_text h.flags ++ h.width_text) h.precision_text (byte ∷ [])

    no_point : h.precision_text ++ byte ∷ [] ≢ 46 ∷ []
    no_point e = omega (arith, ap length e, length_push h.precision_text byte, ap length h.precision_is.2)

    judge_made_precise : is_digit byte ≡ true → Judges part byte (precision_with set width n (byte - 48))
    judge_made_precise d =
        choose (nat_lt MAX_NUMBER (10 * n + (byte - 48))) _ _
        (λ e. let above : MAX_NUMBER < 10 * n + (byte - 48) = grind (arith, nat_tests) in (
          10 * n + (byte - 48),
          above,
          record {
            width = width;
            before = flags_text h.flags ++ h.width_text;
            digits = h.precision_text ++ byte ∷ [];
            before_is = record { flags = h.flags; digits = h.width_text; digits_are = h.width_is; whole = refl };
            digits_are = SpellsPrecision-push h.precision_text n byte d h.precision_is;
            whole = longer_point;
          },
        ))
        (λ e. (
          record {
            flags = h.flags;
            width_text = h.width_text;
            precision_text = h.precision_text ++ byte ∷ [];
            set_is = h.set_is;
            width_is = h.width_is;
            precision_is = SpellsPrecision-push h.precision_text n byte d h.precision_is;
            width_fits = h.width_fits;
            precision_fits = e;
            whole = longer_point ∙ nil_one (flags_text h.flags ++ h.width_text ++ (h.precision_text ++ byte ∷ []));
          },
          no_point,
        ))

  -- a second letter of a modifier
  with_second : (set : FlagSet) (width precision : Option ℕ) (one two : Length) (k : ℕ) → length_letters one ++ k ∷ [] ≡ length_letters two
      → (byte == k) ≡ true → IsFront part set width precision one → IsFront (part ++ byte ∷ []) set width precision two
  with_second set width precision one two k letters e h =
      let same = eqb-true byte k e in
      let before = flags_text h.flags ++ h.width_text ++ h.precision_text in
      record {
        flags = h.flags;
        width_text = h.width_text;
        precision_text = h.precision_text;
        set_is = h.set_is;
        width_is = h.width_is;
        precision_is = h.precision_is;
        width_fits = h.width_fits;
        precision_fits = h.precision_fits;
        whole = ap (λ t. t ++ byte ∷ []) h.whole ∙ append_assoc before (length_letters one) (byte ∷ [])
            ∙ ap (λ b. before ++ (length_letters one ++ b ∷ [])) same ∙ ap (λ l. before ++ l) letters;
      }

  judge_after_modifier : (set : FlagSet) (width precision : Option ℕ) (length : Length) → IsFront part set width precision length
      → Judges part byte (after_modifier set width precision length byte)
  judge_after_modifier set width precision lengths.H h =
      choose (byte == 104) _ _ (λ e. (with_second set width precision lengths.H lengths.Hh 104 refl e h, λ same. cc))
      (λ _. judge_ending set width precision lengths.H h)
  judge_after_modifier set width precision lengths.L h =
      choose (byte == 108) _ _ (λ e. (with_second set width precision lengths.L lengths.Ll 108 refl e h, λ same. cc))
      (λ _. judge_ending set width precision lengths.L h)
  judge_after_modifier set width precision length h = judge_ending set width precision length h

  judge_between : part ≡ [] → Judges part byte (next Between byte)
  judge_between h =
      choose (byte == 0) _ _ (λ e. eqb-true byte 0 e) (λ some. choose (byte == 37) _ _ (λ e. ap (λ t. t ++ byte ∷ []) h ∙ ap (λ b. b ∷ []) (eqb-true byte 37 e))
      (λ no_percent. (refl, rw no_percent (eqb_no byte 0 some, ap (λ t. t ++ byte ∷ []) h), (refl, (eqb_no byte 37 no_percent, eqb_no byte 0 some)))))

  judge_opened : part ≡ 37 ∷ [] → Judges part byte (next Opened byte)
  judge_opened h =
      choose (byte == 37) _ _ (λ e. (refl, ap (λ t. t ++ byte ∷ []) h ∙ ap (λ b. 37 ∷ b ∷ []) (eqb-true byte 37 e)))
      (λ _. judge_after_flags no_flags (record {
        flags = [];
        width_text = [];
        precision_text = [];
        set_is = refl;
        width_is = refl;
        precision_is = refl;
        width_fits = refl;
        precision_fits = refl;
        whole = h;
      }))

-- what one more byte makes of each state
pub judge : (state : State) (part : Text) (byte : ℕ) → IsAt state part → Judges part byte (next state byte)
judge Between part byte h = judge_between part byte h
judge Opened part byte h = judge_opened part byte h
judge (Flags set) part byte h = judge_after_flags part byte set h.0
judge (Width set n) part byte h =
    choose part byte (is_digit byte) _ _ (judge_widened part byte set n h) (λ _. choose part byte (byte == 46) _ _ (with_point part byte set (Some n) h)
    (λ _. choose part byte (byte == 36) _ _ (λ e. (eqb-true byte 36 e, n, to_width h)) (λ _. judge_after_number part byte set (Some n) None h)))
judge (Point set width) part byte h =
    choose part byte (is_digit byte) _ _ (judge_made_precise part byte set width 0 h.0) (λ _. choose part byte (byte == 42) _ _
    (λ e. (
      eqb-true byte 42 e,
      inr (
        flags_text h.0.flags ++ h.0.width_text,
        width,
        record { flags = h.0.flags; digits = h.0.width_text; digits_are = h.0.width_is; whole = refl },
        whole_point h.0
            ∙ ap (λ p. flags_text h.0.flags ++ h.0.width_text ++ p) h.1,
      ),
    ))
    (λ _. judge_after_number part byte set width (Some 0) h.0))
judge (Precision set width n) part byte h =
    choose part byte (is_digit byte) _ _ (judge_made_precise part byte set width n h.0) (λ _. judge_after_number part byte set width (Some n) h.0)
judge (Modifier set width precision length) part byte h = judge_after_modifier part byte set width precision length h.0
