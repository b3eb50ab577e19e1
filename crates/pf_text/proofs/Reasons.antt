-- A byte that is rejected has the reason of that kind, and no other but Unexpected.
use Rattle.std.proofs.Common.{append_assoc, ◌≡◌, ℕ, ◌+◌, ◌-◌, ◌*◌, ◌<◌, ◌≤◌, Bool, true, false, List, [], ◌∷◌, ◌++◌, map, refl, sym, ap, ◌∙◌, arith, subst, inl}
use Rattle.std.proofs.Common.{inr, Ok, Err}
use Rattle.std.specs.Prelude.{Option, Some, None, ◌==◌, ◌⊎◌, Contains}
use Rattle.std.specs.Fmt.{digit_glyph}
use Rattle.std.specs.List.{AllByRecursion}
use Rattle.std.specs.Int.Digits.{number_from_digits_after}
use Rattle.std.proofs.lemmas.Bool.{cases_lt}
use Rattle.std.proofs.lemmas.Bool.Decides.{nat_tests}
use Rattle.std.proofs.lemmas.List.{same_from_push}
use Rattle.std.proofs.lemmas.List.Elements.{All-from_recursion, All-contains}
use Rattle.pf_values.specs.declared.limits.TheConstants.{MAX_NUMBER}
use Rattle.pf_values.specs.declared.flags.Flag.{Flag}
use Rattle.pf_values.specs.declared.flags.FlagSet.{FlagSet}
use Rattle.pf_values.specs.declared.lengths.Length.{Length}
use Rattle.pf_values.specs.declared.lengths.Length.TheVariants as lengths
use Rattle.pf_values.specs.declared.refusals.RefusalKind.{RefusalKind}
use Rattle.pf_values.specs.declared.refusals.RefusalKind.TheVariants.{NulByte, Truncated, Unexpected, BadPercent, Star, Numbered, WidthTooLarge}
use Rattle.pf_values.specs.declared.refusals.RefusalKind.TheVariants.{PrecisionTooLarge, Float, Pointer, Count, Wide, TooLong}
use Rattle.pf_values.specs.meaning.Conversions.{conv_letter}
use Rattle.pf_values.specs.meaning.Defined.{
  is_above_limit,
  refused_as,
  first_broken,
  undefined_kinds,
}
use Rattle.pf_values.specs.meaning.Digits.{AreDigits, AreLeastDigits}
use Rattle.pf_values.specs.meaning.Flags.{flag_set}
use Rattle.pf_values.specs.meaning.Items.{Item}
use Rattle.pf_values.specs.meaning.Lengths.{length_letters}
use Rattle.pf_values.specs.meaning.Refusals.{HasReason, EndsUndefined, IsToWidth, IsToPrecision, IsWithinLimits, TakesStar, flags_text, letters_of}
use Rattle.pf_values.specs.meaning.Specification.{Specification}
use Rattle.pf_values.specs.meaning.Spelling.{SpellsWidth}
use Rattle.pf_values.specs.meaning.Text.{Text}
use Rattle.pf_values.proofs.Numerals.{number_after-place_sum}
use Rattle.pf_text.specs.Stages.{State}
use Rattle.pf_text.specs.Stages.{Between, Opened, Flags, Width, Point, Precision, Modifier}
use Rattle.pf_text.specs.Fronts.{IsAt}
use Rattle.pf_text.specs.Letters.{modifier_of, conv_of, refused_letter}
use Rattle.pf_text.specs.States.{Next, next, after_number, end_at, judgement_of}
use Rattle.pf_text.proofs.Complete.{On, at_flags, at_width, at_point, next-at_flags, digit_is, run-flags, run-width, run-point, first_width, first_precision}
use Rattle.pf_text.proofs.Complete.{more_width, more_precision, point_step, letter_at_point, run-at, no_test, no_digit, no_high_flag, large}
use Rattle.pf_text.proofs.Runs.{moved, run, run-append, run-refused, front-ok}
use Rattle.pf_text.proofs.NumberDigits.{first_above_zero}
use Rattle.pf_text.proofs.Sound.{given_same}
use Rattle.pf_text.proofs.Texts.{start, state_in, split_last, IsEnded-spelled, run-ended}

above_is : (n : ℕ) → is_above_limit (Some n) ≡ true → MAX_NUMBER < n
above_is n e = grind (arith, nat_tests)

above_not : (n : ℕ) → MAX_NUMBER < n → is_above_limit (Some n) ≡ true
above_not n h = grind (arith, nat_tests)

-- a number that passes the limit is rejected at one of its digits
width_passes : (set : FlagSet) (n d : ℕ) → d < 10 → MAX_NUMBER < n * 10 + d → moved [] (next (Width set n) (digit_glyph false d)) ≡ Err WidthTooLarge
width_passes set n d h many =
    let digit = digit_is d h in
    let next : 10 * n + (digit_glyph false d - 48) ≡ n * 10 + d = omega (arith, digit.1) in
    rw (digit.0, next, large) refl

run_passing_width : (ds : List ℕ) (set : FlagSet) (n : ℕ) → AllByRecursion (λ d. d < 10) ds → n ≤ MAX_NUMBER → MAX_NUMBER < number_from_digits_after 10 n ds
    → run (On [] (Width set n)) (map (digit_glyph false) ds) ≡ Err WidthTooLarge
run_passing_width [] set n h few many = absurd (omega arith)
run_passing_width (d ∷ ds) set n h few many =
    let rest = λ (le : n * 10 + d ≤ MAX_NUMBER). run_passing_width ds set (n * 10 + d) h.1 le many in
    elim (cases_lt MAX_NUMBER (n * 10 + d)) [
      | inl passes ↦ ap (λ p. run p (map (digit_glyph false) ds)) (width_passes set n d h.0 passes) ∙ run-refused WidthTooLarge (map (digit_glyph false) ds)
      | inr le ↦ ap (λ p. run p (map (digit_glyph false) ds)) (more_width [] set n d h.0 le) ∙ rest le
    ]

run_large_width : (flags : List Flag) (n : ℕ) (t : Text) → SpellsWidth t (Some n) → MAX_NUMBER < n → run (On [] (at_flags flags)) t ≡ Err WidthTooLarge
run_large_width flags n t h many = go h.1.0 h.1.1 h.1.2 where
  go : (ds : List ℕ) → AreLeastDigits 10 1 n ds → t ≡ map (digit_glyph false) ds → run (On [] (at_flags flags)) t ≡ Err WidthTooLarge
  go [] l e = absurd (omega (arith, l.enough))
  go (d ∷ ds) l e =
      let below = l.digits.below in
      let value : number_from_digits_after 10 d ds ≡ n = omega (arith, number_after-place_sum 10 d ds, l.digits.sum) in
      ap (run (On [] (at_flags flags))) e
      ∙ ap (λ p. run p (map (digit_glyph false) ds)) (first_width [] flags d (first_above_zero n d ds h.0 l) below.0)
      ∙ run_passing_width ds (flag_set flags) d below.1 (omega (arith, below.0)) (omega arith)

precision_passes : (set : FlagSet) (width : Option ℕ) (n d : ℕ) → d < 10 → MAX_NUMBER < n * 10 + d
    → moved [] (next (Precision set width n) (digit_glyph false d)) ≡ Err PrecisionTooLarge
precision_passes set width n d h many =
    let digit = digit_is d h in
    let next : 10 * n + (digit_glyph false d - 48) ≡ n * 10 + d = omega (arith, digit.1) in
    rw (digit.0, next, large) refl

run_passing_precision : (ds : List ℕ) (set : FlagSet) (width : Option ℕ) (n : ℕ) → AllByRecursion (λ d. d < 10) ds → n ≤ MAX_NUMBER
    → MAX_NUMBER < number_from_digits_after 10 n ds
    → run (On [] (Precision set width n)) (map (digit_glyph false) ds) ≡ Err PrecisionTooLarge
run_passing_precision [] set width n h few many = absurd (omega arith)
run_passing_precision (d ∷ ds) set width n h few many =
    let rest = λ (le : n * 10 + d ≤ MAX_NUMBER). run_passing_precision ds set width (n * 10 + d) h.1 le many in
    elim (cases_lt MAX_NUMBER (n * 10 + d)) [
      | inl passes ↦ ap (λ p. run p (map (digit_glyph false) ds)) (precision_passes set width n d h.0 passes)
          ∙ run-refused PrecisionTooLarge (map (digit_glyph false) ds)
      | inr le ↦ ap (λ p. run p (map (digit_glyph false) ds)) (more_precision [] set width n d h.0 le) ∙ rest le
    ]

run_large_digits : (ds : List ℕ) (set : FlagSet) (width : Option ℕ) (n : ℕ) → AreDigits 10 n ds → MAX_NUMBER < n
    → run (On [] (Point set width)) (map (digit_glyph false) ds) ≡ Err PrecisionTooLarge
run_large_digits [] set width n a many = absurd (omega (arith, a.sum))
run_large_digits (d ∷ ds) set width n a many =
    let value : number_from_digits_after 10 d ds ≡ n = omega (arith, number_after-place_sum 10 d ds, a.sum) in
    ap (λ p. run p (map (digit_glyph false) ds)) (first_precision [] set width d a.below.0)
    ∙ run_passing_precision ds set width d a.below.1 (omega (arith, a.below.0)) (omega arith)

module _ (front : Text) (width : Option ℕ) (h : IsToWidth front width) where
  run_flags_of : run start front ≡ run (On [] (at_flags h.flags)) h.digits
  run_flags_of = ap (run start) h.whole ∙ run-append start (flags_text h.flags) h.digits ∙ ap (λ p. run p h.digits) (run-flags [] h.flags)

  to_width_run : is_above_limit width ≡ false → run start front ≡ On [] (at_width h.flags width)
  to_width_run few = run_flags_of ∙ run-width [] h.flags width h.digits h.digits_are few

to_width_large : (front : Text) (width : Option ℕ) → IsToWidth front width → is_above_limit width ≡ true → run start front ≡ Err WidthTooLarge
to_width_large front None h many = cc
to_width_large front (Some n) h many = run_flags_of front (Some n) h ∙ run_large_width h.flags n h.digits h.digits_are (above_is n many)

module _ (front : Text) (precision : Option ℕ) (h : IsToPrecision front precision) where
  run_width_of : run start front ≡ run (run start h.before) h.digits
  run_width_of = ap (run start) h.whole ∙ run-append start h.before h.digits

  to_precision_run : is_above_limit h.width ≡ false → is_above_limit precision ≡ false
      → run start front ≡ On [] (at_point h.before_is.flags h.width precision h.digits h.digits_are)
  to_precision_run few small =
      run_width_of ∙ ap (λ p. run p h.digits) (to_width_run h.before h.width h.before_is few)
      ∙ run-point [] h.before_is.flags h.width precision h.digits h.digits_are small

  before_large : is_above_limit h.width ≡ true → run start front ≡ Err WidthTooLarge
  before_large many = run_width_of ∙ ap (λ p. run p h.digits) (to_width_large h.before h.width h.before_is many) ∙ run-refused WidthTooLarge h.digits

point_large : (front : Text) (precision : Option ℕ) (h : IsToPrecision front precision) → is_above_limit h.width ≡ false → is_above_limit precision ≡ true
    → run start front ≡ Err PrecisionTooLarge
point_large front None h few many = cc
point_large front (Some n) h few many =
    run_width_of front (Some n) h
    ∙ ap (λ p. run p h.digits) (to_width_run h.before h.width h.before_is few)
    ∙ ap (run (On [] (at_width h.before_is.flags h.width))) h.digits_are.2
    ∙ ap (λ p. run (moved [] p) (map (digit_glyph false) h.digits_are.0)) (point_step h.before_is.flags h.width)
    ∙ run_large_digits h.digits_are.0 (flag_set h.before_is.flags) h.width n h.digits_are.1 (above_is n many)

-- what is run through has numbers within the limits
width_within : (front : Text) (width : Option ℕ) (q : State × List Item) → IsToWidth front width → run start front ≡ Ok q → is_above_limit width ≡ false
width_within front width q h e = go (is_above_limit width) refl where
  go : (b : Bool) → is_above_limit width ≡ b → b ≡ false
  go true many = let no = to_width_large front width h many in cc
  go false few = refl

module _ (front : Text) (precision : Option ℕ) (q : State × List Item) (h : IsToPrecision front precision) (e : run start front ≡ Ok q) where
  before_within : is_above_limit h.width ≡ false
  before_within = go (is_above_limit h.width) refl where
    go : (b : Bool) → is_above_limit h.width ≡ b → b ≡ false
    go true many = let no = before_large front precision h many in cc
    go false few = refl

  precision_within : is_above_limit precision ≡ false
  precision_within = go (is_above_limit precision) refl where
    go : (b : Bool) → is_above_limit precision ≡ b → b ≡ false
    go true many = let no = point_large front precision h before_within many in cc
    go false few = refl

-- a letter that is rejected wherever a specification goes on
record IsBad (kind : RefusalKind) (byte : ℕ) : Type 0 where
  high : 57 < byte
  modifier : modifier_of byte ≡ None
  conv : conv_of byte ≡ None
  float : (byte == 76) ≡ false
  kind_is : refused_letter byte ≡ kind

bad : (kind : RefusalKind) (byte : ℕ) → 57 < byte → modifier_of byte ≡ None → conv_of byte ≡ None → (byte == 76) ≡ false → refused_letter byte ≡ kind
    → IsBad kind byte
bad kind byte a b c d e = record { high = a; modifier = b; conv = c; float = d; kind_is = e }

bad_letters : (kind : RefusalKind) → AllByRecursion (IsBad kind) (letters_of kind)
bad_letters Float = (
  bad Float 97 (omega arith) refl refl refl refl,
  (
    bad Float 65 (omega arith) refl refl refl refl,
    (
      bad Float 101 (omega arith) refl refl refl refl,
      (
        bad Float 69 (omega arith) refl refl refl refl,
        (
          bad Float 102 (omega arith) refl refl refl refl,
          (
            bad Float 70 (omega arith) refl refl refl refl,
            (
              bad Float 103 (omega arith) refl refl refl refl,
              (bad Float 71 (omega arith) refl refl refl refl, tt),
            ),
          ),
        ),
      ),
    ),
  ),
)
bad_letters Pointer = (bad Pointer 112 (omega arith) refl refl refl refl, tt)
bad_letters Count = (bad Count 110 (omega arith) refl refl refl refl, tt)
bad_letters Wide = (bad Wide 67 (omega arith) refl refl refl refl, (bad Wide 83 (omega arith) refl refl refl refl, tt))
bad_letters _ = tt

module _ (kind : RefusalKind) (byte : ℕ) (h : IsBad kind byte) where
  bad_number : (set : FlagSet) (width precision : Option ℕ) → after_number set width precision byte ≡ Err (refused_letter byte)
  bad_number set width precision = rw (h.modifier, h.float, h.conv) refl

  bad_end : (set : FlagSet) (width precision : Option ℕ) (length : Length) → end_at set width precision length byte ≡ Err (refused_letter byte)
  bad_end set width precision length = rw (h.conv) refl

  not_h : (byte == 104) ≡ false
  not_h = let m = h.modifier in grind (arith, nat_tests, m)

  not_l : (byte == 108) ≡ false
  not_l = let m = h.modifier in grind (arith, nat_tests, m)

  bad_modifier : (set : FlagSet) (width precision : Option ℕ) (length : Length) → next (Modifier set width precision length) byte ≡ Err (refused_letter byte)
  bad_modifier set width precision lengths.H = rw (not_h) (bad_end set width precision lengths.H)
  bad_modifier set width precision lengths.L = rw (not_l) (bad_end set width precision lengths.L)
  bad_modifier set width precision length = bad_end set width precision length

  same_kind : (n : Next) (k : RefusalKind) → n ≡ Err (refused_letter byte) → n ≡ Err k → kind ≡ k
  same_kind n k e g = let same : refused_letter byte ≡ k = cc in sym h.kind_is ∙ same

  bad_next : (state : State) (k : RefusalKind) → next state byte ≡ Err k → kind ≡ k
  bad_next Between k e =
      let zero = no_test byte 0 (omega (arith, h.high)) in
      let percent = no_test byte 37 (omega (arith, h.high)) in
      cc (rw (zero, percent) at e)
  bad_next Opened k e = same_kind _ k (letter_at_point [] None None [] refl byte h.high ∙ bad_number (flag_set []) None None) e
  bad_next (Flags set) k e =
      let flag = no_high_flag byte h.high in
      let digit = no_digit byte h.high in
      let point = no_test byte 46 (omega (arith, h.high)) in
      let star = no_test byte 42 (omega (arith, h.high)) in
      same_kind _ k (rw (flag, digit, point, star) (bad_number set None None)) e
  bad_next (Width set n) k e =
      let digit = no_digit byte h.high in
      let point = no_test byte 46 (omega (arith, h.high)) in
      let dollar = no_test byte 36 (omega (arith, h.high)) in
      same_kind _ k (rw (digit, point, dollar) (bad_number set (Some n) None)) e
  bad_next (Point set width) k e =
      let digit = no_digit byte h.high in
      let star = no_test byte 42 (omega (arith, h.high)) in
      same_kind _ k (rw (digit, star) (bad_number set width (Some 0))) e
  bad_next (Precision set width n) k e = let digit = no_digit byte h.high in same_kind _ k (rw (digit) (bad_number set width (Some n))) e
  bad_next (Modifier set width precision length) k e = same_kind _ k (bad_modifier set width precision length) e

at_zero : (state : State) (k : RefusalKind) → next state 0 ≡ Err k → NulByte ≡ k
at_zero Between k e = cc
at_zero Opened k e = cc
at_zero (Flags set) k e = cc
at_zero (Width set n) k e = cc
at_zero (Point set width) k e = cc
at_zero (Precision set width n) k e = cc
at_zero (Modifier set width precision lengths.H) k e = cc
at_zero (Modifier set width precision lengths.L) k e = cc
at_zero (Modifier set width precision length) k e = cc

at_percent : (state : State) (k : RefusalKind) → next state 37 ≡ Err k → BadPercent ≡ k
at_percent Between k e = cc
at_percent Opened k e = cc
at_percent (Flags set) k e = cc
at_percent (Width set n) k e = cc
at_percent (Point set width) k e = cc
at_percent (Precision set width n) k e = cc
at_percent (Modifier set width precision lengths.H) k e = cc
at_percent (Modifier set width precision lengths.L) k e = cc
at_percent (Modifier set width precision length) k e = cc

module _ (state : State) (part : Text) (byte : ℕ) (k : RefusalKind) (at : IsAt state part) (e : next state byte ≡ Err k) where
  here : run start part ≡ On [] state
  here = run-at [] state part at

  refused : run start (part ++ byte ∷ []) ≡ Err k
  refused = run-append start part (byte ∷ []) ∙ ap (λ p. run p (byte ∷ [])) here ∙ ap (moved []) e

  -- another state at the same place is the same
  same_state : (q : State) → run start part ≡ On [] q → next q byte ≡ Err k
  same_state q g = let same : state ≡ q = ap state_in (sym here ∙ g) in subst (λ s. next s byte ≡ Err k) same e

  of_letter : (kind : RefusalKind) → Contains (letters_of kind) byte → kind ≡ k
  of_letter kind h = bad_next kind byte (All-contains (IsBad kind) (letters_of kind) byte
      (All-from_recursion (IsBad kind) (letters_of kind) (bad_letters kind)) h) state k e

  of_undefined : (kind : RefusalKind) → EndsUndefined part byte kind → kind ≡ k
  of_undefined kind h =
      let s = h.0 in
      let spells = h.1 in
      let numbers = flags_text spells.flags ++ spells.width ++ spells.precision in
      let cut = same_from_push part (numbers ++ length_letters s.length) byte (conv_letter s.conv) spells.whole in
      let ok = front-ok start numbers (length_letters s.length) (state, []) (ap (run start) (sym cut.0) ∙ here) in
      let to : IsToPrecision numbers s.precision = record {
        width = s.width;
        before = flags_text spells.flags ++ spells.width;
        digits = spells.precision;
        before_is = record { flags = spells.flags; digits = spells.width; digits_are = spells.width_is; whole = refl };
        digits_are = spells.precision_is;
        whole = refl;
      } in
      let width = before_within numbers s.precision ok.0 to ok.1 in
      let precision = precision_within numbers s.precision ok.0 to ok.1 in
      let few : IsWithinLimits s = record { width = width; precision = precision } in
      let run_it = run-ended [] (part ++ byte ∷ []) s (IsEnded-spelled (part ++ byte ∷ []) s spells few) in
      let given = given_same spells.width s.width spells.width_is in
      let g : Option ℕ → Specification = λ w. record { flags = s.flags; width = w; precision = s.precision; length = s.length; conv = s.conv } in
      let skipped : refused_as s ≡ first_broken undefined_kinds s = rw (width, precision) refl in
      let all : run start (part ++ byte ∷ []) ≡ Err kind = run_it ∙ ap (λ w. moved [] (judgement_of (g w) (refused_as (g w)))) given.0
      ∙ ap (λ o. moved [] (judgement_of s o)) (skipped ∙ h.2) in
      cc (all, refused)

  of_width : (n : ℕ) → MAX_NUMBER < n → IsToWidth (part ++ byte ∷ []) (Some n) → WidthTooLarge ≡ k
  of_width n many h = let all = to_width_large (part ++ byte ∷ []) (Some n) h (above_not n many) in cc (all, refused)

  of_precision : (n : ℕ) → MAX_NUMBER < n → IsToPrecision (part ++ byte ∷ []) (Some n) → PrecisionTooLarge ≡ k
  of_precision n many h =
      let cut = split_last h.digits (λ none. let same = none in cc (h.digits_are.2)) in
      let front = same_from_push part (h.before ++ cut.0) byte cut.1
      (h.whole ∙ ap (λ u. h.before ++ u) cut.2 ∙ sym (append_assoc h.before cut.0 (cut.1 ∷ []))) in
      let ok = front-ok start h.before cut.0 (state, []) (ap (run start) (sym front.0) ∙ here) in
      let few = width_within h.before h.width ok.0 h.before_is ok.1 in
      let all = point_large (part ++ byte ∷ []) (Some n) h few (above_not n many) in
      cc (all, refused)

  of_long_double : byte ≡ 76 → (precision : Option ℕ) → IsToPrecision part precision → Float ≡ k
  of_long_double is precision h =
      let few = before_within part precision (state, []) h here in
      let small = precision_within part precision (state, []) h here in
      let there = same_state (at_point h.before_is.flags h.width precision h.digits h.digits_are) (to_precision_run part precision h few small) in
      let byte_there = subst (λ b. next (at_point h.before_is.flags h.width precision h.digits h.digits_are) b ≡ Err k) is there in
      let letter = letter_at_point h.before_is.flags h.width precision h.digits h.digits_are 76 (omega arith) in
      cc (letter, byte_there)

  of_star : byte ≡ 42 → (flags : List Flag) → part ≡ flags_text flags → Star ≡ k
  of_star is flags h =
      let there = same_state (at_flags flags) (ap (run start) h ∙ run-flags [] flags) in
      let byte_there = subst (λ b. next (at_flags flags) b ≡ Err k) is there in
      let star = next-at_flags flags 42 refl in
      cc (star, byte_there)

  of_star_at_point : byte ≡ 42 → (before : Text) (width : Option ℕ) → IsToWidth before width → part ≡ before ++ 46 ∷ [] → Star ≡ k
  of_star_at_point is before width h whole =
      let ok = front-ok start before (46 ∷ []) (state, []) (ap (run start) (sym whole) ∙ here) in
      let few = width_within before width ok.0 h ok.1 in
      let there = same_state (Point (flag_set h.flags) width)
      (ap (run start) whole ∙ run-append start before (46 ∷ []) ∙ ap (λ p. run p (46 ∷ [])) (to_width_run before width h few)
      ∙ ap (moved []) (point_step h.flags width)) in
      let byte_there = subst (λ b. next (Point (flag_set h.flags) width) b ≡ Err k) is there in
      cc (byte_there)

  of_dollar : byte ≡ 36 → (n : ℕ) → IsToWidth part (Some n) → Numbered ≡ k
  of_dollar is n h =
      let few = width_within part (Some n) (state, []) h here in
      let there = same_state (Width (flag_set h.flags) n) (to_width_run part (Some n) h few) in
      let byte_there = subst (λ b. next (Width (flag_set h.flags) n) b ≡ Err k) is there in
      cc (byte_there)

  by_letter : (kind : RefusalKind) → (Contains (letters_of kind) byte ⊎ EndsUndefined part byte kind) → kind ≡ k
  by_letter kind (inl h) = of_letter kind h
  by_letter kind (inr h) = of_undefined kind h

  by_float : HasReason part byte Float → Float ≡ k
  by_float (inl h) = of_letter Float h
  by_float (inr h) = of_long_double h.0 h.1.0 h.1.1

  by_star : HasReason part byte Star → Star ≡ k
  by_star h = go h.1 where
    go : TakesStar part → Star ≡ k
    go (inl g) = of_star h.0 g.0 g.1
    go (inr g) = of_star_at_point h.0 g.0 g.1 g.2 g.3

  pub only_reason : (other : RefusalKind) → HasReason part byte other → (other ≡ k) ⊎ (other ≡ Unexpected)
  only_reason NulByte h = inl (at_zero state k (subst (λ b. next state b ≡ Err k) h e))
  only_reason BadPercent h = inl (at_percent state k (subst (λ b. next state b ≡ Err k) h e))
  only_reason WidthTooLarge h = inl (of_width h.0 h.1 h.2)
  only_reason PrecisionTooLarge h = inl (of_precision h.0 h.1 h.2)
  only_reason Float h = inl (by_float h)
  only_reason Star h = inl (by_star h)
  only_reason Numbered h = inl (of_dollar h.0 h.1 h.2)
  only_reason Truncated h = absurd h
  only_reason TooLong h = absurd h
  only_reason Unexpected h = inr refl
  only_reason kind h = inl (by_letter kind h)
