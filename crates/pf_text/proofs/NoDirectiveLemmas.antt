-- Where no directive begins: the automaton rejects the text before it has read one.
use Rattle.std.proofs.Common.{◌≡◌, ◌≢◌, ℕ, ◌+◌, ◌-◌, ◌*◌, ◌<◌, ◌≤◌, Bool, true, false, cond, List, [], ◌∷◌, ◌++◌, length, drop, get_or, take, refl, sym, ap, ◌∙◌, arith, subst, Ok, Err, inl, inr}
use Rattle.std.specs.Prelude.{Option, Some, None, ◌==◌, find, is_some}
use Rattle.std.proofs.lemmas.Bool.{cases_lt, eqb-true}
use Rattle.std.proofs.lemmas.Bool.Decides.{nat_tests}
use Rattle.std.proofs.lemmas.List.{append_assoc, append_cancel_left, append-nil, drop_all, drop_more, length-take, take-append-drop}
use Rattle.pf_values.specs.Directives.{specification_of}
use Rattle.pf_values.specs.declared.conversions.Conv.{Conv}
use Rattle.pf_values.specs.declared.flags.Flag.{Flag}
use Rattle.pf_values.specs.declared.flags.FlagSet.{FlagSet}
use Rattle.pf_values.specs.declared.lengths.Length.{Length}
use Rattle.pf_values.specs.declared.lengths.Length.TheVariants as lengths
use Rattle.pf_values.specs.declared.limits.TheConstants.{MAX_NUMBER}
use Rattle.pf_values.specs.declared.refusals.RefusalKind.{RefusalKind}
use Rattle.pf_values.specs.declared.refusals.RefusalKind.TheVariants.{Float, Numbered, PrecisionTooLarge, Star, WidthTooLarge}
use Rattle.pf_values.specs.meaning.Conversions.{conv_letter}
use Rattle.pf_values.specs.meaning.Defined.{breaks, first_broken, refused_as, undefined_kinds}
use Rattle.pf_values.specs.meaning.Digits.{AreDigits}
use Rattle.pf_values.specs.meaning.Flags.{flag_set, no_flags}
use Rattle.pf_values.specs.meaning.Items.{Byte, Directive}
use Rattle.pf_values.specs.meaning.Lengths.{length_letters}
use Rattle.pf_values.specs.meaning.Specification.{Specification}
use Rattle.pf_values.specs.meaning.Spelling.{SpellsPrecision}
use Rattle.pf_values.specs.meaning.Text.{Text, percent, point, zero_digit}
use Rattle.pf_values.proofs.Numerals.{number_after-place_sum}
use Rattle.std.specs.Int.Digits.{number_from_digits_after}
use Rattle.pf_text.specs.FoundDirectives.{ArePartsAt, BeginsNoDirective, EndsParts}
use Rattle.pf_text.specs.Fronts.{IsFront}
use Rattle.pf_text.specs.Letters.{conv_of, flag_of, modifier_of, refused_letter}
use Rattle.pf_text.specs.Offsets.{EndsModifier, EndsPrecision, EndsWidth, HasBytes, goes_on}
use Rattle.pf_text.specs.Stages.{State}
use Rattle.pf_text.specs.Stages.{Between, Opened, Flags, Width, Point, Precision, Modifier}
use Rattle.pf_text.specs.States.{Next, after_flags, after_number, end_at, is_digit, judged_as, judgement_of, next}
use Rattle.pf_text.proofs.Complete.{On, at_digits, at_flags, at_length, at_point, at_width, conv_at_length, large, next-at_flags, run-front, run-length}
use Rattle.pf_text.proofs.Runs.{Progress, run, run-append, run-refused}
use Rattle.pf_text.proofs.SpecificationLemmas.{bytes_join}
use Rattle.pf_text.proofs.Texts.{items_in, run-directive}
use Rattle.pf_text.proofs.Unique.{Cuts, Later, Sooner, cuts, no_items, prefixed, run_from}

-- from a state on, no bytes at the front of a text end a directive
abbrev pub EndsNone : State → Text → Type 0
EndsNone state t = (read rest : Text) (s : Specification) → t ≡ read ++ rest → run (On [] state) read ≡ On (Directive s ∷ []) Between → ⊥

-- so from between items on none begins the text
pub none_begins : (t : Text) → EndsNone Between t → BeginsNoDirective t
none_begins t none read rest s split h = none read rest s split (run-directive [] read s h.0 h.1)

none_yet : (state : State) (s : Specification) → On [] state ≡ On (Directive s ∷ []) Between → ⊥
none_yet state s e = let no : [] ≡ Directive s ∷ [] = ap items_in e in cc

-- nothing ends none
pub nothing_ends : (state : State) → EndsNone state []
nothing_ends state [] rest s split e = none_yet state s e
nothing_ends state (b ∷ read) rest s split e = absurd (omega (arith, ap length split))

-- a rejected byte
pub refused_ends : (state : State) (byte : ℕ) (t : Text) (kind : RefusalKind) → next state byte ≡ Err kind → EndsNone state (byte ∷ t)
refused_ends state byte t kind h [] rest s split e = none_yet state s e
refused_ends state byte t kind h (b ∷ read) rest s split e =
    let same : byte ≡ b = cc in
    let refused : run (On [] state) (b ∷ read) ≡ Err kind = ap (λ k. run (On [] state) (k ∷ read)) (sym same) ∙ rw h (run-refused kind read) in
    cc

-- bytes that lead to another state, from which none ends
pub none_from : (state later : State) (u t : Text) → run (On [] state) u ≡ On [] later → EndsNone later t → EndsNone state (u ++ t)
none_from state later u t leads none read rest s split e = go (cuts u t read rest split) where
  go : Cuts u t read rest → ⊥
  go (Later x f g) = none x rest s g (ap (λ p. run p x) (sym leads) ∙ sym (run-append (On [] state) u x) ∙ ap (run (On [] state)) (sym f) ∙ e)
  go (Sooner x f g) =
      let after : run (On (Directive s ∷ []) Between) x ≡ On [] later =
      ap (λ p. run p x) (sym e) ∙ sym (run-append (On [] state) read x) ∙ ap (run (On [] state)) (sym f) ∙ leads in
      let no = no_items x Between later (Directive s ∷ []) after in
      cc

-- `%%` isn't a directive
percent_first : (s : Specification) (p : Progress) → prefixed (Byte percent ∷ []) p ≡ On (Directive s ∷ []) Between → ⊥
percent_first s (Ok p) e = let no : Byte percent ∷ p.1 ≡ Directive s ∷ [] = ap items_in e in cc
percent_first s (Err kind) e = let no : [] ≡ Directive s ∷ [] = ap items_in e in cc

pub percent_ends : (t : Text) → EndsNone Opened (percent ∷ t)
percent_ends t [] rest s split e = none_yet Opened s e
percent_ends t (b ∷ read) rest s split e =
    let same : percent ≡ b = cc in
    percent_first s (run (On [] Between) read)
    (sym (run_from read (Byte percent ∷ []) Between) ∙ ap (λ k. run (On [] Opened) (k ∷ read)) same ∙ e)

-- another byte than `%` begins none
pub other_begins : (byte : ℕ) (t : Text) → byte ≢ percent → BeginsNoDirective (byte ∷ t)
other_begins byte t other read rest s split h =
    let whole : byte ∷ t ≡ percent ∷ _ = split ∙ ap (λ u. u ++ rest) h.0.whole in
    other (cc)

-- where the item is rejected
abbrev IsRefused : Next → Type 0
IsRefused n = (kind : RefusalKind) × (n ≡ Err kind)

module _ (byte : ℕ) (conv : conv_of byte ≡ None) where
  letter_refused : (set : FlagSet) (width precision : Option ℕ) (length : Length) → IsRefused (end_at set width precision length byte)
  letter_refused set width precision length = (refused_letter byte, rw conv refl)

  number_refused : (set : FlagSet) (width precision : Option ℕ) → modifier_of byte ≡ None → IsRefused (after_number set width precision byte)
  number_refused set width precision modifier = go (byte == 76) refl where
    go : (b : Bool) → (byte == 76) ≡ b → IsRefused (after_number set width precision byte)
    go true e = (Float, rw (modifier, e) refl)
    go false e = (refused_letter byte, rw (modifier, e, conv) refl)

  flags_refused : (set : FlagSet) → flag_of byte ≡ None → is_digit byte ≡ false → byte ≢ point → modifier_of byte ≡ None
      → IsRefused (after_flags set byte)
  flags_refused set flag digit dot modifier = go (byte == 42) refl where
    no_point : (byte == 46) ≡ false
    no_point = grind (arith, nat_tests, dot)

    go : (b : Bool) → (byte == 42) ≡ b → IsRefused (after_flags set byte)
    go true e = (Star, rw (flag, digit, no_point, e) refl)
    go false e = let after = number_refused set None None modifier in (after.0, rw (flag, digit, no_point, e) after.1)

  width_refused : (set : FlagSet) (n : ℕ) → (is_digit byte ≡ true → MAX_NUMBER < 10 * n + (byte - 48)) → byte ≢ point → modifier_of byte ≡ None
      → IsRefused (next (Width set n) byte)
  width_refused set n over dot modifier = go (is_digit byte) refl where
    no_point : (byte == 46) ≡ false
    no_point = grind (arith, nat_tests, dot)

    no_dollar : (b : Bool) → is_digit byte ≡ false → (byte == 36) ≡ b → IsRefused (next (Width set n) byte)
    no_dollar true digit e = (Numbered, rw (digit, no_point, e) refl)
    no_dollar false digit e = let after = number_refused set (Some n) None modifier in (after.0, rw (digit, no_point, e) after.1)

    go : (b : Bool) → is_digit byte ≡ b → IsRefused (next (Width set n) byte)
    go true digit = let too_large = large (10 * n + (byte - 48)) (over digit) in (WidthTooLarge, rw (digit, too_large) refl)
    go false digit = no_dollar (byte == 36) digit refl

  point_refused : (set : FlagSet) (width : Option ℕ) → is_digit byte ≡ false → modifier_of byte ≡ None → IsRefused (next (Point set width) byte)
  point_refused set width digit modifier = go (byte == 42) refl where
    go : (b : Bool) → (byte == 42) ≡ b → IsRefused (next (Point set width) byte)
    go true e = (Star, rw (digit, e) refl)
    go false e = let after = number_refused set width (Some 0) modifier in (after.0, rw (digit, e) after.1)

  precision_refused : (set : FlagSet) (width : Option ℕ) (n : ℕ) → (is_digit byte ≡ true → MAX_NUMBER < 10 * n + (byte - 48)) → modifier_of byte ≡ None
      → IsRefused (next (Precision set width n) byte)
  precision_refused set width n over modifier = go (is_digit byte) refl where
    go : (b : Bool) → is_digit byte ≡ b → IsRefused (next (Precision set width n) byte)
    go true digit = let too_large = large (10 * n + (byte - 48)) (over digit) in (PrecisionTooLarge, rw (digit, too_large) refl)
    go false digit = let after = number_refused set width (Some n) modifier in (after.0, rw digit after.1)

  digits_refused : (set : FlagSet) (width : Option ℕ) (n : ℕ) (ds : List ℕ) → AreDigits 10 n ds → (is_digit byte ≡ true → MAX_NUMBER < 10 * n + (byte - 48))
      → modifier_of byte ≡ None → IsRefused (next (at_digits set width ds) byte)
  digits_refused set width n [] a over modifier = point_refused set width (no_digit (is_digit byte) refl) modifier where
    no_digit : (b : Bool) → is_digit byte ≡ b → b ≡ false
    no_digit true e =
        let none : 0 ≡ n = a.sum in
        let high = over e in
        let low : byte ≤ 57 = grind (arith, nat_tests, e) in
        absurd (omega (arith, none, high, low))
    no_digit false e = refl
  digits_refused set width n (d ∷ ds) a over modifier =
      let value : number_from_digits_after 10 d ds ≡ n = omega (arith, number_after-place_sum 10 d ds, a.sum) in
      subst (λ m. IsRefused (next (Precision set width m) byte)) (sym value) (precision_refused set width n over modifier)

-- a byte doesn't go on with a number
abbrev pub GoesNoWidth : Option ℕ → ℕ → Type 0
GoesNoWidth None byte = is_digit byte ≡ true → byte ≡ zero_digit
GoesNoWidth (Some n) byte = is_digit byte ≡ true → MAX_NUMBER < 10 * n + (byte - zero_digit)

abbrev pub GoesNoPrecision : Option ℕ → ℕ → Type 0
GoesNoPrecision None byte = byte ≢ point
GoesNoPrecision (Some n) byte = is_digit byte ≡ true → MAX_NUMBER < 10 * n + (byte - zero_digit)

module _ (byte : ℕ) (rest : Text) (conv : conv_of byte ≡ None) where
  -- after flags
  flag_ends : (flags : List Flag) → flag_of byte ≡ None → is_digit byte ≡ false → byte ≢ point → modifier_of byte ≡ None
      → EndsNone (at_flags flags) (byte ∷ rest)
  flag_ends [] flag digit dot modifier = go (byte == percent) refl where
    go : (b : Bool) → (byte == percent) ≡ b → EndsNone Opened (byte ∷ rest)
    go true e = subst (λ k. EndsNone Opened (k ∷ rest)) (sym (eqb-true byte percent e)) (percent_ends rest)
    go false e =
        let after = flags_refused byte conv no_flags flag digit dot modifier in
        refused_ends Opened byte rest after.0 (next-at_flags [] byte e ∙ after.1)
  flag_ends (one ∷ flags) flag digit dot modifier =
      let after = flags_refused byte conv (flag_set (one ∷ flags)) flag digit dot modifier in
      refused_ends (Flags (flag_set (one ∷ flags))) byte rest after.0 after.1

  -- after numbers
  width_ends : (flags : List Flag) (width : Option ℕ) → (width ≡ None → flag_of byte ≡ None) → GoesNoWidth width byte → byte ≢ point → modifier_of byte ≡ None
      → EndsNone (at_width flags width) (byte ∷ rest)
  width_ends flags None flag none dot modifier = flag_ends flags (flag refl) (no_digit (is_digit byte) refl) dot modifier where
    no_digit : (b : Bool) → is_digit byte ≡ b → is_digit byte ≡ false
    no_digit true e = absurd (let is : byte ≡ 48 = none e in let zero_flag = flag refl in let no : flag_of 48 ≡ None = subst (λ k. flag_of k ≡ None) is zero_flag in cc)
    no_digit false e = e
  width_ends flags (Some n) flag over dot modifier =
      let after = width_refused byte conv (flag_set flags) n over dot modifier in
      refused_ends (Width (flag_set flags) n) byte rest after.0 after.1

  point_ends : (flags : List Flag) (width precision : Option ℕ) (t : Text) (s : SpellsPrecision t precision)
      → (width ≡ None → precision ≡ None → flag_of byte ≡ None)
      → (precision ≡ None → GoesNoWidth width byte) → GoesNoPrecision precision byte → modifier_of byte ≡ None
      → EndsNone (at_point flags width precision t s) (byte ∷ rest)
  point_ends flags width None t s flag number dot modifier = width_ends flags width (λ e. flag e refl) (number refl) dot modifier
  point_ends flags width (Some n) t s flag number over modifier =
      let after = digits_refused byte conv (flag_set flags) width n s.0 s.1 over modifier in
      refused_ends (at_digits (flag_set flags) width s.0) byte rest after.0 after.1

  -- after a modifier
  modifier_ends : (set : FlagSet) (width precision : Option ℕ) (length : Length) → length ≢ lengths.None → goes_on length byte ≡ false
      → EndsNone (Modifier set width precision length) (byte ∷ rest)
  modifier_ends set width precision lengths.None some none = absurd (some refl)
  modifier_ends set width precision lengths.H some none =
      let after = letter_refused byte conv set width precision lengths.H in
      refused_ends (Modifier set width precision lengths.H) byte rest after.0 (rw none after.1)
  modifier_ends set width precision lengths.L some none =
      let after = letter_refused byte conv set width precision lengths.L in
      refused_ends (Modifier set width precision lengths.L) byte rest after.0 (rw none after.1)
  modifier_ends set width precision length some none =
      let after = letter_refused byte conv set width precision length in
      refused_ends (Modifier set width precision length) byte rest after.0 after.1

-- what comes after bytes
pub bytes_rest : (t : Text) (start stop : ℕ) (bytes : Text) → HasBytes t start stop bytes → drop start t ≡ bytes ++ drop stop t
bytes_rest t start stop bytes h =
    append_cancel_left (take start t) (drop start t) (bytes ++ drop stop t)
    (take-append-drop start t ∙ sym (take-append-drop stop t) ∙ ap (λ u. u ++ drop stop t) h.whole ∙ append_assoc (take start t) bytes (drop stop t))

-- no bytes
pub same_place : (t : Text) (start stop : ℕ) → HasBytes t start stop [] → start ≡ stop
same_place t start stop h =
    omega (arith, h.from, h.within, ap length (h.whole ∙ append-nil (take start t)), length-take start t, length-take stop t)

-- a find that finds nothing finds nothing later
found_later : {X : Type 0} (p : X → Bool) (a b : X) (xs : List X) → find p (a ∷ b ∷ xs) ≡ None → find p xs ≡ None
found_later p a b xs e = go (p a) (p b) e where
  go : (i j : Bool) → cond i (Some a) (cond j (Some b) (find p xs)) ≡ None → find p xs ≡ None
  go true j e = cc
  go false true e = cc
  go false false e = e

-- where the parts end that were read, and a length modifier
module _ (t : Text) (start at stop : ℕ) (flags : FlagSet) (width precision : Option ℕ) (h : ArePartsAt t start flags width precision at) (modifier : Length)
    (letters : HasBytes t at stop (length_letters modifier)) where
  parts : IsFront h.0 flags width precision lengths.None
  parts = h.1

  abbrev point_state : State
  point_state = at_point h.1.flags width precision h.1.precision_text h.1.precision_is

  abbrev later : State
  later = at_length point_state (flag_set h.1.flags) width precision modifier

  parts_lead : run (On [] Between) (h.0 ++ length_letters modifier) ≡ On [] later
  parts_lead =
      run-append (On [] Between) h.0 (length_letters modifier)
      ∙ ap (λ p. run p (length_letters modifier)) (run-front [] h.0 flags width precision lengths.None h.1)
      ∙ run-length [] h.1.flags width precision h.1.precision_text h.1.precision_is modifier

  -- and none ends after them
  none_behind : EndsNone later (drop stop t) → BeginsNoDirective (drop start t)
  none_behind none =
      let whole = bytes_join t start at stop h.0 (length_letters modifier) h.2 letters in
      subst BeginsNoDirective (sym (bytes_rest t start stop (h.0 ++ length_letters modifier) whole))
      (none_begins ((h.0 ++ length_letters modifier) ++ drop stop t) (none_from Between later (h.0 ++ length_letters modifier) (drop stop t) parts_lead none))

  -- where no conversion comes
  module _ (ends : EndsParts t at width precision) (last : EndsModifier modifier t stop) (letter : stop < length t → conv_of (get_or t stop 0) ≡ None) where
    module _ (some : stop < length t) where
      ends_there : (l : Length) → modifier ≡ l → EndsNone (at_length point_state (flag_set h.1.flags) width precision l) (get_or t stop 0 ∷ drop (stop + 1) t)
      ends_there lengths.None e =
          let place : at ≡ stop = same_place t at stop (subst (λ l. HasBytes t at stop (length_letters l)) e letters) in
          let there : EndsParts t stop width precision = subst (λ k. EndsParts t k width precision) place ends in
          let none : goes_on lengths.None (get_or t stop 0) ≡ false = subst (λ l. goes_on l (get_or t stop 0) ≡ false) e (last some) in
          point_ends (get_or t stop 0) (drop (stop + 1) t) (letter some) h.1.flags width precision h.1.precision_text h.1.precision_is
          (λ w p. there.flags w p some) (λ p. goes_no_width width (there.width_ends p)) (goes_no_precision precision there.precision_ends)
          (no_modifier (modifier_of (get_or t stop 0)) none) where
            goes_no_width : (w : Option ℕ) → EndsWidth w t stop → GoesNoWidth w (get_or t stop 0)
            goes_no_width None g = g some
            goes_no_width (Some n) g = g some

            goes_no_precision : (p : Option ℕ) → EndsPrecision p t stop → GoesNoPrecision p (get_or t stop 0)
            goes_no_precision None g = g some
            goes_no_precision (Some n) g = g some

            no_modifier : (o : Option Length) → is_some o ≡ false → o ≡ None
            no_modifier None g = refl
            no_modifier (Some l) g = cc
      ends_there l e =
          modifier_ends (get_or t stop 0) (drop (stop + 1) t) (letter some) (flag_set h.1.flags) width precision l (λ z. cc)
          (subst (λ l. goes_on l (get_or t stop 0) ≡ false) e (last some))

    pub no_conv_there : BeginsNoDirective (drop start t)
    no_conv_there = elim (cases_lt stop (length t)) [
      | inl some ↦ none_behind (subst (EndsNone later) (sym (drop_more t stop 0 some)) (ends_there some modifier refl))
      | inr none ↦ none_behind (subst (EndsNone later) (sym (drop_all stop t none)) (nothing_ends later))
    ]

  -- where the standard doesn't define what the parts are together
  pub undefined_there : (conv : Conv) → HasBytes t stop (stop + 1) (conv_letter conv ∷ [])
      → first_broken undefined_kinds (specification_of flags None precision modifier conv) ≢ None → BeginsNoDirective (drop start t)
  undefined_there conv letter undefined =
      none_behind (subst (EndsNone later) (sym (bytes_rest t stop (stop + 1) (conv_letter conv ∷ []) letter)) (judged (refused_as s) refl)) where
        s : Specification
        s = specification_of flags width precision modifier conv

        judged : (o : Option RefusalKind) → refused_as s ≡ o → EndsNone later (conv_letter conv ∷ drop (stop + 1) t)
        judged None e = absurd (undefined (found_later (breaks s) WidthTooLarge PrecisionTooLarge undefined_kinds e))
        judged (Some kind) e =
            refused_ends later (conv_letter conv) (drop (stop + 1) t) kind
            (conv_at_length h.1.flags width precision h.1.precision_text h.1.precision_is modifier conv
            ∙ ap (λ f. judged_as f width precision modifier conv) (sym h.1.set_is) ∙ ap (judgement_of s) e)
