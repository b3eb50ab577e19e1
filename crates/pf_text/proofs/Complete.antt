-- What is spelled is run through.
use Rattle.std.proofs.Common.{◌≡◌, ℕ, ◌+◌, ◌-◌, ◌*◌, ◌<◌, ◌≤◌, true, false, List, [], ◌∷◌, ◌++◌, map, refl, sym, ap, ◌∙◌, arith, Ok}
use Rattle.std.specs.Prelude.{Option, Some, None, fold, nat_lt, ◌==◌}
use Rattle.std.specs.Fmt.{digit_glyph}
use Rattle.std.specs.List.{AllByRecursion}
use Rattle.std.specs.Int.Digits.{number_from_digits_after}
use Rattle.std.proofs.lemmas.Bool.Decides.{nat_tests}
use Rattle.std.proofs.lemmas.Int.Digits.{number_after_ge}
use Rattle.pf_values.specs.declared.limits.TheConstants.{MAX_NUMBER}
use Rattle.pf_values.specs.declared.conversions.Conv.{Conv}
use Rattle.pf_values.specs.declared.conversions.Conv.TheVariants.{D}
use Rattle.pf_values.specs.declared.flags.Flag.{Flag}
use Rattle.pf_values.specs.declared.flags.Flag.TheVariants.{Minus, Plus, Space, Alt, Zero, Group}
use Rattle.pf_values.specs.declared.flags.FlagSet.{FlagSet}
use Rattle.pf_values.specs.declared.lengths.Length.{Length}
use Rattle.pf_values.specs.declared.lengths.Length.TheVariants as lengths
use Rattle.pf_values.specs.meaning.Conversions.{conv_letter}
use Rattle.pf_values.specs.meaning.Defined.{is_above_limit}
use Rattle.pf_values.specs.meaning.Digits.{AreDigits, AreLeastDigits}
use Rattle.pf_values.specs.meaning.Flags.{with_flag, no_flags, flag_byte, flag_set}
use Rattle.pf_values.specs.meaning.Items.{Item}
use Rattle.pf_values.specs.meaning.Lengths.{length_letters}
use Rattle.pf_values.specs.meaning.Spelling.{SpellsWidth, SpellsPrecision}
use Rattle.pf_values.specs.meaning.Text.{Text}
use Rattle.pf_values.proofs.Numerals.{number_after-place_sum}
use Rattle.pf_text.specs.Stages.{State}
use Rattle.pf_text.specs.Stages.{Between, Opened, Flags, Width, Point, Precision, Modifier}
use Rattle.pf_text.specs.Letters.{flag_of, modifier_of, conv_of}
use Rattle.pf_text.specs.States.{next, is_digit, after_flags, after_number, inside, end_at, judged_as}
use Rattle.pf_text.specs.Fronts.{IsFront, IsAt}
use Rattle.pf_text.proofs.NumberDigits.{first_above_zero}
use Rattle.pf_text.proofs.Runs.{Progress, moved, run, run-append}

pub flag_of_byte : (flag : Flag) → flag_of (flag_byte flag) ≡ Some flag
flag_of_byte Minus = refl
flag_of_byte Plus = refl
flag_of_byte Space = refl
flag_of_byte Alt = refl
flag_of_byte Zero = refl
flag_of_byte Group = refl

no_percent : (flag : Flag) → (flag_byte flag == 37) ≡ false
no_percent Minus = refl
no_percent Plus = refl
no_percent Space = refl
no_percent Alt = refl
no_percent Zero = refl
no_percent Group = refl

-- the state after these flags
abbrev pub at_flags : List Flag → State
at_flags [] = Opened
at_flags (flag ∷ flags) = Flags (flag_set (flag ∷ flags))

abbrev pub at_width : List Flag → Option ℕ → State
at_width flags None = at_flags flags
at_width flags (Some n) = Width (flag_set flags) n

-- a flag or a byte that isn't a flag, after `%` and flags
pub next-at_flags : (flags : List Flag) (byte : ℕ) → (byte == 37) ≡ false → next (at_flags flags) byte ≡ after_flags (flag_set flags) byte
next-at_flags [] byte h = rw h refl
next-at_flags (flag ∷ flags) byte h = refl

-- the value of a digit's byte
pub digit_is : (d : ℕ) → d < 10 → (is_digit (digit_glyph false d) ≡ true) × (digit_glyph false d - 48 ≡ d)
digit_is d h = (grind (arith, nat_tests), grind (arith, nat_tests))

no_flag : (d : ℕ) → 0 < d → d < 10 → (flag_of (digit_glyph false d) ≡ None) × ((digit_glyph false d == 37) ≡ false)
no_flag d low high = (grind (arith, nat_tests), grind (arith, nat_tests))

pub small : (n : ℕ) → n ≤ MAX_NUMBER → nat_lt MAX_NUMBER n ≡ false
small n h = grind (arith, nat_tests)

pub large : (n : ℕ) → MAX_NUMBER < n → nat_lt MAX_NUMBER n ≡ true
large n h = grind (arith, nat_tests)

pub fits_le : (n : ℕ) → is_above_limit (Some n) ≡ false → n ≤ MAX_NUMBER
fits_le n h = grind (arith, nat_tests)

module _ (items : List Item) where
  abbrev pub On : State → Progress
  On state = Ok (state, items)

  flag_step : (set : FlagSet) (flag : Flag) → moved items (next (Flags set) (flag_byte flag)) ≡ On (Flags (with_flag set flag))
  flag_step set flag = rw (flag_of_byte flag) refl

  run_more_flags : (flags : List Flag) (set : FlagSet) → run (On (Flags set)) (map flag_byte flags) ≡ On (Flags (fold with_flag set flags))
  run_more_flags [] set = refl
  run_more_flags (flag ∷ flags) set = ap (λ p. run p (map flag_byte flags)) (flag_step set flag) ∙ run_more_flags flags (with_flag set flag)

  pub run-flags : (flags : List Flag) → run (On Opened) (map flag_byte flags) ≡ On (at_flags flags)
  run-flags [] = refl
  run-flags (flag ∷ flags) =
      let first : moved items (next Opened (flag_byte flag)) ≡ On (Flags (with_flag no_flags flag)) = rw (no_percent flag, flag_of_byte flag) refl in
      ap (λ p. run p (map flag_byte flags)) first ∙ run_more_flags flags (with_flag no_flags flag)

  pub more_width : (set : FlagSet) (n d : ℕ) → d < 10 → n * 10 + d ≤ MAX_NUMBER
      → moved items (next (Width set n) (digit_glyph false d)) ≡ On (Width set (n * 10 + d))
  more_width set n d h few =
      let digit = digit_is d h in
      let next : 10 * n + (digit_glyph false d - 48) ≡ n * 10 + d = omega (arith, digit.1) in
      rw (digit.0, next, small) refl

  run_width : (ds : List ℕ) (set : FlagSet) (n : ℕ) → AllByRecursion (λ d. d < 10) ds → number_from_digits_after 10 n ds ≤ MAX_NUMBER
      → run (On (Width set n)) (map (digit_glyph false) ds) ≡ On (Width set (number_from_digits_after 10 n ds))
  run_width [] set n h few = refl
  run_width (d ∷ ds) set n h few =
      let grows = number_after_ge 10 (n * 10 + d) ds (omega arith) in
      ap (λ p. run p (map (digit_glyph false) ds)) (more_width set n d h.0 (omega arith)) ∙ run_width ds set (n * 10 + d) h.1 few

  pub first_width : (flags : List Flag) (d : ℕ) → 0 < d → d < 10 → moved items (next (at_flags flags) (digit_glyph false d)) ≡ On (Width (flag_set flags) d)
  first_width flags d low high =
      let digit = digit_is d high in
      let none = no_flag d low high in
      ap (moved items) (next-at_flags flags (digit_glyph false d) none.1) ∙ rw (none.0, digit.0, digit.1) refl

  pub run-width : (flags : List Flag) (width : Option ℕ) (t : Text) → SpellsWidth t width → is_above_limit width ≡ false
      → run (On (at_flags flags)) t ≡ On (at_width flags width)
  run-width flags None t h few = ap (run (On (at_flags flags))) h
  run-width flags (Some n) t h few = go h.1.0 h.1.1 h.1.2 where
    go : (ds : List ℕ) → AreLeastDigits 10 1 n ds → t ≡ map (digit_glyph false) ds → run (On (at_flags flags)) t ≡ On (Width (flag_set flags) n)
    go [] l e = absurd (omega (arith, l.enough))
    go (d ∷ ds) l e =
        let below = l.digits.below in
        let value : number_from_digits_after 10 d ds ≡ n = omega (arith, number_after-place_sum 10 d ds, l.digits.sum) in
        let le = fits_le n few in
        let digits = run_width ds (flag_set flags) d below.1 (omega arith) in
        let step = ap (λ p. run p (map (digit_glyph false) ds)) (first_width flags d (first_above_zero n d ds h.0 l) below.0) in
        ap (run (On (at_flags flags))) e ∙ step ∙ digits ∙ ap (λ m. On (Width (flag_set flags) m)) value

-- the state after the digits of a precision
abbrev pub at_digits : FlagSet → Option ℕ → List ℕ → State
at_digits set width [] = Point set width
at_digits set width (d ∷ ds) = Precision set width (number_from_digits_after 10 d ds)

abbrev pub at_point : (flags : List Flag) (width precision : Option ℕ) (t : Text) → SpellsPrecision t precision → State
at_point flags width None t h = at_width flags width
at_point flags width (Some n) t h = at_digits (flag_set flags) width h.0

abbrev pub at_length : State → FlagSet → Option ℕ → Option ℕ → Length → State
at_length before set width precision lengths.None = before
at_length before set width precision length = Modifier set width precision length

pub point_step : (flags : List Flag) (width : Option ℕ) → next (at_width flags width) 46 ≡ inside (Point (flag_set flags) width)
point_step flags None = next-at_flags flags 46 refl
point_step flags (Some n) = refl

pub no_test : (byte k : ℕ) → k < byte → (byte == k) ≡ false
no_test byte k h = grind (arith, nat_tests)

pub no_digit : (byte : ℕ) → 57 < byte → is_digit byte ≡ false
no_digit byte h = grind (arith, nat_tests)

pub no_high_flag : (byte : ℕ) → 57 < byte → flag_of byte ≡ None
no_high_flag byte h = grind (arith, nat_tests)

-- a letter after a width
letter_at_width : (flags : List Flag) (width : Option ℕ) (byte : ℕ) → 57 < byte
    → next (at_width flags width) byte ≡ after_number (flag_set flags) width None byte
letter_at_width flags None byte h =
    let percent = no_test byte 37 (omega arith) in
    let point = no_test byte 46 (omega arith) in
    let star = no_test byte 42 (omega arith) in
    let digit = no_digit byte h in
    let flag = no_high_flag byte h in
    next-at_flags flags byte percent ∙ rw (flag, digit, point, star) refl
letter_at_width flags (Some n) byte h =
    let point = no_test byte 46 (omega arith) in
    let dollar = no_test byte 36 (omega arith) in
    let digit = no_digit byte h in
    rw (digit, point, dollar) refl

letter_at_digits : (set : FlagSet) (width : Option ℕ) (n : ℕ) (ds : List ℕ) (byte : ℕ) → AreDigits 10 n ds → 57 < byte
    → next (at_digits set width ds) byte ≡ after_number set width (Some n) byte
letter_at_digits set width n [] byte a h =
    let star = no_test byte 42 (omega arith) in
    let digit = no_digit byte h in
    let same : 0 ≡ n = a.sum in
    rw (digit, star) (ap (λ m. after_number set width (Some m) byte) same)
letter_at_digits set width n (d ∷ ds) byte a h =
    let digit = no_digit byte h in
    let value : number_from_digits_after 10 d ds ≡ n = omega (arith, number_after-place_sum 10 d ds, a.sum) in
    rw (digit) (ap (λ m. after_number set width (Some m) byte) value)

-- a letter after the numbers
pub letter_at_point : (flags : List Flag) (width precision : Option ℕ) (t : Text) (s : SpellsPrecision t precision) (byte : ℕ) → 57 < byte
    → next (at_point flags width precision t s) byte ≡ after_number (flag_set flags) width precision byte
letter_at_point flags width None t s byte h = letter_at_width flags width byte h
letter_at_point flags width (Some n) t s byte h = letter_at_digits (flag_set flags) width n s.0 byte s.1 h

record LetterTests (conv : Conv) : Type 0 where
  modifier : modifier_of (conv_letter conv) ≡ None
  no_float : (conv_letter conv == 76) ≡ false
  no_h : (conv_letter conv == 104) ≡ false
  no_l : (conv_letter conv == 108) ≡ false
  high : 57 < conv_letter conv
  conv_is : conv_of (conv_letter conv) ≡ Some conv

letter_tests : (conv : Conv) → LetterTests conv
letter_tests D = record { modifier = refl; no_float = refl; no_h = refl; no_l = refl; high = omega arith; conv_is = refl }
letter_tests _ = record { modifier = refl; no_float = refl; no_h = refl; no_l = refl; high = omega arith; conv_is = refl }

ending_at_conv : (set : FlagSet) (width precision : Option ℕ) (length : Length) (conv : Conv)
    → end_at set width precision length (conv_letter conv) ≡ judged_as set width precision length conv
ending_at_conv set width precision length conv = let tests = letter_tests conv in rw tests.conv_is refl

after_number_at_conv : (set : FlagSet) (width precision : Option ℕ) (conv : Conv)
    → after_number set width precision (conv_letter conv) ≡ judged_as set width precision lengths.None conv
after_number_at_conv set width precision conv = let tests = letter_tests conv in rw (tests.modifier, tests.no_float, tests.conv_is) refl

module _ (flags : List Flag) (width precision : Option ℕ) (t : Text) (s : SpellsPrecision t precision) where
  pub conv_at_length : (length : Length) (conv : Conv)
      → next (at_length (at_point flags width precision t s) (flag_set flags) width precision length) (conv_letter conv) ≡ judged_as
      (flag_set flags) width precision length conv
  conv_at_length lengths.None conv =
      let tests = letter_tests conv in
      letter_at_point flags width precision t s (conv_letter conv) tests.high ∙ after_number_at_conv (flag_set flags) width precision conv
  conv_at_length lengths.H conv = let tests = letter_tests conv in rw (tests.no_h, tests.conv_is) refl
  conv_at_length lengths.L conv = let tests = letter_tests conv in rw (tests.no_l, tests.conv_is) refl
  conv_at_length length conv = ending_at_conv (flag_set flags) width precision length conv

module _ (items : List Item) where
  pub more_precision : (set : FlagSet) (width : Option ℕ) (n d : ℕ) → d < 10 → n * 10 + d ≤ MAX_NUMBER
      → moved items (next (Precision set width n) (digit_glyph false d)) ≡ On items (Precision set width (n * 10 + d))
  more_precision set width n d h few =
      let digit = digit_is d h in
      let next : 10 * n + (digit_glyph false d - 48) ≡ n * 10 + d = omega (arith, digit.1) in
      rw (digit.0, next, small) refl

  run_precision : (ds : List ℕ) (set : FlagSet) (width : Option ℕ) (n : ℕ) → AllByRecursion (λ d. d < 10) ds → number_from_digits_after 10 n ds ≤ MAX_NUMBER
      → run (On items (Precision set width n)) (map (digit_glyph false) ds) ≡ On items (Precision set width (number_from_digits_after 10 n ds))
  run_precision [] set width n h few = refl
  run_precision (d ∷ ds) set width n h few =
      let grows = number_after_ge 10 (n * 10 + d) ds (omega arith) in
      ap (λ p. run p (map (digit_glyph false) ds)) (more_precision set width n d h.0 (omega arith)) ∙ run_precision ds set width (n * 10 + d) h.1 few

  pub first_precision : (set : FlagSet) (width : Option ℕ) (d : ℕ) → d < 10
      → moved items (next (Point set width) (digit_glyph false d)) ≡ On items (Precision set width d)
  first_precision set width d h =
      let digit = digit_is d h in
      let next : 10 * 0 + (digit_glyph false d - 48) ≡ d = omega (arith, digit.1) in
      let few = small d (omega arith) in
      rw (digit.0, next, few) refl

  run_point : (ds : List ℕ) (set : FlagSet) (width : Option ℕ) (n : ℕ) → AreDigits 10 n ds → n ≤ MAX_NUMBER
      → run (On items (Point set width)) (map (digit_glyph false) ds) ≡ On items (at_digits set width ds)
  run_point [] set width n a few = refl
  run_point (d ∷ ds) set width n a few =
      let value : number_from_digits_after 10 d ds ≡ n = omega (arith, number_after-place_sum 10 d ds, a.sum) in
      ap (λ p. run p (map (digit_glyph false) ds)) (first_precision set width d a.below.0) ∙ run_precision ds set width d a.below.1 (omega arith)

  pub run-point : (flags : List Flag) (width precision : Option ℕ) (t : Text) (s : SpellsPrecision t precision) → is_above_limit precision ≡ false
      → run (On items (at_width flags width)) t ≡ On items (at_point flags width precision t s)
  run-point flags width None t s few = ap (run (On items (at_width flags width))) s
  run-point flags width (Some n) t s few =
      ap (run (On items (at_width flags width))) s.2
      ∙ ap (λ p. run (moved items p) (map (digit_glyph false) s.0)) (point_step flags width)
      ∙ run_point s.0 (flag_set flags) width n s.1 (fits_le n few)

  pub run-length : (flags : List Flag) (width precision : Option ℕ) (t : Text) (s : SpellsPrecision t precision) (length : Length)
      → run (On items (at_point flags width precision t s)) (length_letters length) ≡ On items
      (at_length (at_point flags width precision t s) (flag_set flags) width precision length)
  run-length flags width precision t s lengths.None = refl
  run-length flags width precision t s lengths.Hh = ap (λ p. run (moved items p) (104 ∷ [])) (letter_at_point flags width precision t s 104 (omega arith))
  run-length flags width precision t s lengths.H = ap (moved items) (letter_at_point flags width precision t s 104 (omega arith))
  run-length flags width precision t s lengths.L = ap (moved items) (letter_at_point flags width precision t s 108 (omega arith))
  run-length flags width precision t s lengths.Ll = ap (λ p. run (moved items p) (108 ∷ [])) (letter_at_point flags width precision t s 108 (omega arith))
  run-length flags width precision t s lengths.J = ap (moved items) (letter_at_point flags width precision t s 106 (omega arith))
  run-length flags width precision t s lengths.Z = ap (moved items) (letter_at_point flags width precision t s 122 (omega arith))
  run-length flags width precision t s lengths.T = ap (moved items) (letter_at_point flags width precision t s 116 (omega arith))

-- the state after a specification without its conversion
abbrev pub at_front : {part : Text} {set : FlagSet} {width precision : Option ℕ} {length : Length} → IsFront part set width precision length → State
at_front {part} {set} {width} {precision} {length} h = at_length (at_point h.flags width precision h.precision_text h.precision_is)
    (flag_set h.flags) width precision length

pub run-front : (items : List Item) (part : Text) (set : FlagSet) (width precision : Option ℕ) (length : Length) (h : IsFront part set width precision length)
    → run (On items Between) part ≡ On items (at_front h)
run-front items part set width precision length h =
    let flags = map flag_byte h.flags in
    let one = run-append (On items Between) (37 ∷ flags ++ h.width_text ++ h.precision_text) (length_letters length) in
    let two = run-append (On items Between) (37 ∷ flags ++ h.width_text) h.precision_text in
    let three = run-append (On items Between) (37 ∷ flags) h.width_text in
    ap (run (On items Between)) h.whole
    ∙ one
    ∙ ap (λ p. run p (length_letters length)) (two ∙ ap (λ p. run p h.precision_text)
    (three ∙ ap (λ p. run p h.width_text) (run-flags items h.flags) ∙ run-width items h.flags width h.width_text h.width_is h.width_fits)
    ∙ run-point items h.flags width precision h.precision_text h.precision_is h.precision_fits)
    ∙ run-length items h.flags width precision h.precision_text h.precision_is length

pub conv_at_front : (part : Text) (set : FlagSet) (width precision : Option ℕ) (length : Length) (h : IsFront part set width precision length) (conv : Conv)
    → next (at_front h) (conv_letter conv) ≡ judged_as set width precision length conv
conv_at_front part set width precision length h conv =
    conv_at_length h.flags width precision h.precision_text h.precision_is length conv ∙ ap (λ f. judged_as f width precision length conv) (sym h.set_is)

pub run-at : (items : List Item) (state : State) (part : Text) → IsAt state part → run (On items Between) part ≡ On items state
run-at items Between part h = ap (run (On items Between)) h
run-at items Opened part h = ap (run (On items Between)) h
run-at items (Flags set) part h = run-front items part set None None lengths.None h.0 ∙ ap (On items) (flags_at h.0.flags h.1 h.0.set_is) where
  flags_at : (flags : List Flag) → (flags ≡ [] → ⊥) → set ≡ flag_set flags → at_flags flags ≡ Flags set
  flags_at [] some e = absurd (some refl)
  flags_at (flag ∷ flags) some e = ap Flags (sym e)
run-at items (Width set n) part h = run-front items part set (Some n) None lengths.None h ∙ ap (λ f. On items (Width f n)) (sym h.set_is)
run-at items (Point set width) part h = run-front items part set width (Some 0) lengths.None h.0
    ∙ ap (On items) (digits_at h.0.precision_is.0 (sym h.0.precision_is.2 ∙ h.1)) ∙ ap (λ f. On items (Point f width)) (sym h.0.set_is) where
      digits_at : (ds : List ℕ) → 46 ∷ map (digit_glyph false) ds ≡ 46 ∷ [] → at_digits (flag_set h.0.flags) width ds ≡ Point (flag_set h.0.flags) width
      digits_at [] e = refl
      digits_at (d ∷ ds) e = cc
run-at items (Precision set width n) part h =
    run-front items part set width (Some n) lengths.None h.0 ∙ ap (On items) (digits_at h.0.precision_is.0 h.0.precision_is.1 h.0.precision_is.2)
    ∙ ap (λ f. On items (Precision f width n)) (sym h.0.set_is) where
      digits_at : (ds : List ℕ) → AreDigits 10 n ds → h.0.precision_text ≡ 46 ∷ map (digit_glyph false) ds
          → at_digits (flag_set h.0.flags) width ds ≡ Precision (flag_set h.0.flags) width n
      digits_at [] a e = absurd (h.1 e)
      digits_at (d ∷ ds) a e = ap (Precision (flag_set h.0.flags) width) (omega (arith, number_after-place_sum 10 d ds, a.sum))
run-at items (Modifier set width precision length) part h = run-front items part set width precision length h.0 ∙ ap (On items) (modifier_at length h.1)
    ∙ ap (λ f. On items (Modifier f width precision length)) (sym h.0.set_is) where
      modifier_at : (l : Length) → (l ≡ lengths.None → ⊥) → at_length (at_point h.0.flags width precision h.0.precision_text h.0.precision_is)
          (flag_set h.0.flags) width precision l ≡ Modifier (flag_set h.0.flags) width precision l
      modifier_at lengths.None some = absurd (some refl)
      modifier_at _ some = refl
