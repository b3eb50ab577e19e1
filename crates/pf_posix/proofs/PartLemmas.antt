-- The parts of a specification at a place of a text, as the code reads them.
use Rattle.std.proofs.Common.{◌≡◌, ◌≢◌, ℕ, ◌+◌, ◌<◌, ◌≤◌, Bool, true, false, List, [], ◌∷◌, ◌++◌, drop, get_or, length, map, refl, sym, ap, ◌∙◌, arith, inl, inr}
use Rattle.std.proofs.Common.{subst}
use Rattle.std.specs.Prelude.{Option, Some, None, is_some, ◌==◌}
use Rattle.std.specs.Fmt.{digit_glyph}
use Rattle.std.specs.List.{AllByRecursion}
use Rattle.std.proofs.lemmas.Bool.{cases_lt, eqb-true}
use Rattle.std.proofs.lemmas.Bool.Decides.{nat_tests}
use Rattle.std.proofs.lemmas.List.{get_or-drop, get_or_past, length-drop}
use Rattle.pf_values.specs.declared.limits.TheConstants.{MAX_NUMBER}
use Rattle.pf_values.specs.meaning.Defined.{is_above_limit}
use Rattle.pf_values.specs.meaning.Digits.{AreLeastDigits}
use Rattle.pf_values.specs.meaning.Spelling.{width_spelled}
use Rattle.pf_values.specs.meaning.Text.{Text}
use Rattle.pf_values.proofs.Numerals.{number_after-place_sum}
use Rattle.pf_text.specs.Offsets.{ContinuesNumber, EndsWidth, HasBytes}
use Rattle.pf_text.specs.States.{is_digit}
use Rattle.pf_text.proofs.Complete.{digit_is}
use Rattle.pf_text.proofs.NoDirectiveLemmas.{bytes_rest, same_place}
use Rattle.pf_text.proofs.NumberDigits.{first_above_zero}
use Rattle.pf_text.proofs.ReadBack.{width_read}
use Rattle.pf_text.proofs.SpecificationLemmas.{bytes_join, bytes_one}
use Rattle.pf_posix.specs.Letters.{is_first_digit}
use Rattle.pf_posix.specs.PartsInText.{IsFirstWidth}
use Rattle.pf_posix.specs.Specifications.{Given}
use Rattle.pf_posix.specs.Spelling.{SpellsPosition, SpellsPositive, SpellsWholePrecision}

-- the byte at a place, and what comes after it
head_of : (t : Text) (at : ℕ) → get_or (drop at t) 0 0 ≡ get_or t at 0
head_of t at = let here : at + 0 ≡ at = omega arith in get_or-drop at t 0 0 ∙ ap (λ n. get_or t n 0) here

pub head_at : (t : Text) (at byte : ℕ) (rest : Text) → drop at t ≡ byte ∷ rest → get_or t at 0 ≡ byte
head_at t at byte rest e = sym (head_of t at) ∙ ap (λ u. get_or u 0 0) e

pub inside_at : (t : Text) (at byte : ℕ) (rest : Text) → drop at t ≡ byte ∷ rest → at < length t
inside_at t at byte rest e = omega (arith, ap length e, length-drop at t)

-- a number begins with a digit from 1 on
first_is : (d : ℕ) → 0 < d → d < 10 → is_first_digit (digit_glyph false d) ≡ true
first_is d low high = grind (arith, nat_tests)

only_zero : (byte : ℕ) → (is_digit byte ≡ true → byte ≡ 48) → is_first_digit byte ≡ false
only_zero byte h = grind (arith, nat_tests, h)

pub bool_no : {b : Bool} → b ≡ true → b ≡ false → ⊥
bool_no h g = let no : true ≡ false = sym h ∙ g in cc

-- digits, and where they end
abbrev AreDigitBytes : Text → Type 0
AreDigitBytes t = AllByRecursion (λ b. is_digit b ≡ true) t

digit_bytes : (ds : List ℕ) → AllByRecursion (λ d. d < 10) ds → AreDigitBytes (map (digit_glyph false) ds)
digit_bytes [] h = tt
digit_bytes (d ∷ ds) h = ((digit_is d h.0).0, digit_bytes ds h.1)

same_end : (a b x y : Text) → AreDigitBytes a → AreDigitBytes b → a ++ x ≡ b ++ y → is_digit (get_or x 0 0) ≡ false → is_digit (get_or y 0 0) ≡ false → x ≡ y
same_end [] [] x y h k e f g = e
same_end [] (d ∷ b) x y h k e f g = absurd (bool_no k.0 (ap (λ l. is_digit (get_or l 0 0)) (sym e) ∙ f))
same_end (d ∷ a) [] x y h k e f g = absurd (bool_no h.0 (ap (λ l. is_digit (get_or l 0 0)) e ∙ g))
same_end (d ∷ a) (c ∷ b) x y h k e f g = same_end a b x y h.1 k.1 (ap (drop 1) e) f g

module _ (t : Text) (start : ℕ) where
  abbrev byte_here : ℕ
  byte_here = get_or t start 0

  -- a number from 1 on begins with a digit that isn't 0
  positive_first : (digits rest : Text) (n : ℕ) → SpellsPositive digits n → drop start t ≡ digits ++ rest → is_first_digit byte_here ≡ true
  positive_first digits rest n w e = go w.numeral.0 w.numeral.1 w.numeral.2 where
    go : (ds : List ℕ) → AreLeastDigits 10 1 n ds → digits ≡ map (digit_glyph false) ds → is_first_digit byte_here ≡ true
    go [] l s = absurd (omega (arith, l.enough))
    go (d ∷ ds) l s =
        ap is_first_digit (head_at t start (digit_glyph false d) (map (digit_glyph false) ds ++ rest) (e ∙ ap (λ u. u ++ rest) s))
        ∙ first_is d (first_above_zero n d ds w.some l) l.digits.below.0

  pub no_first_digit : EndsWidth None t start → is_first_digit byte_here ≡ false
  no_first_digit h = elim (cases_lt start (length t)) [
    | inl less ↦ only_zero byte_here (h less)
    | inr over ↦ ap is_first_digit (get_or_past t start 0 over)
  ]

  -- no number is there, so no first number with a `$`
  pub number_missing : (stop : ℕ) → HasBytes t start stop [] → EndsWidth None t stop → IsFirstWidth t start
  number_missing stop h ends after n digits w bytes dollar =
      bool_no (positive_first digits (drop after t) n w (bytes_rest t start after digits bytes))
      (no_first_digit (subst (EndsWidth None t) (sym (same_place t start stop h)) ends))

  -- a number that was read
  module _ (n stop : ℕ) (read : HasBytes t start stop (width_spelled (Some n))) (some : Some n ≢ Some 0) (few : is_above_limit (Some n) ≡ false)
      (ends : EndsWidth (Some n) t stop) where
    pub numeral_read : SpellsPositive (width_spelled (Some n)) n
    numeral_read = let w = width_read (Some n) some few in record { some = w.0; numeral = w.1; within = grind (arith, nat_tests) }

    -- another byte than `$` comes after it, and no digit
    pub first_width : is_digit (get_or t stop 0) ≡ false → (get_or t stop 0 == 36) ≡ false → IsFirstWidth t start
    first_width digit dollar after m digits w bytes e =
        let here : (at : ℕ) → get_or (drop at t) 0 0 ≡ get_or t at 0 = λ at. head_of t at in
        let own = numeral_read in
        let same : drop stop t ≡ drop after t = same_end (width_spelled (Some n)) digits (drop stop t) (drop after t)
        (subst AreDigitBytes (sym own.numeral.2) (digit_bytes own.numeral.0 own.numeral.1.digits.below))
        (subst AreDigitBytes (sym w.numeral.2) (digit_bytes w.numeral.0 w.numeral.1.digits.below))
        (sym (bytes_rest t start stop (width_spelled (Some n)) read) ∙ bytes_rest t start after digits bytes)
        (ap is_digit (here stop) ∙ digit) (ap is_digit (here after ∙ e)) in
        bool_no (ap (λ b. b == 36) (sym (here stop) ∙ ap (λ u. get_or u 0 0) same ∙ here after ∙ e)) dollar

    -- `$` does
    pub position_read : stop < length t → (get_or t stop 0 == 36) ≡ true → (bytes : Text) × SpellsPosition bytes (Some n) × HasBytes t start (stop + 1) bytes
    position_read inside dollar = (
      width_spelled (Some n) ++ 36 ∷ [],
      (width_spelled (Some n), numeral_read, refl),
      bytes_join t start stop (stop + 1) (width_spelled (Some n)) (36 ∷ []) read (bytes_one t stop 36 inside (sym (eqb-true (get_or t stop 0) 36 dollar))),
    )

-- digits after the point of a precision
pub point_bytes : (t : Text) (start : ℕ) (position : Option ℕ) (n stop : ℕ) → n ≤ MAX_NUMBER
    → (bytes : Text) × ContinuesNumber 0 bytes n × HasBytes t start stop bytes
    → (bytes : Text) × SpellsWholePrecision (46 ∷ bytes) position (Some (Given n)) × HasBytes t start stop bytes
point_bytes t start position n stop few read =
    let g = read.1 in (
      read.0,
      ((g.digits, record { below = g.below; sum = omega (arith, number_after-place_sum 10 0 g.digits, g.value) }, ap (λ u. 46 ∷ u) g.spelled), few),
      read.2,
    )

-- what a test says of a byte
pub byte_is : (t : Text) (at byte : ℕ) → (get_or t at 0 == byte) ≡ true → byte ≡ get_or t at 0
byte_is t at byte e = sym (eqb-true (get_or t at 0) byte e)

-- what a test says of a number
pub known_number : (o : Option ℕ) → is_some o ≡ true → (k : ℕ) × (o ≡ Some k)
known_number (Some k) e = (k, refl)
known_number None e = cc
