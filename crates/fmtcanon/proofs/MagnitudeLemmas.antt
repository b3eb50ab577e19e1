-- Bytes that spell a number without sign.
use Rattle.std.proofs.Common.{take_all, FitsSigned, to_z, of_z, ◌+ℤ◌, ◌*ℤ◌, ℤ, pos, ◌≡◌, ℕ, ◌+◌, ◌-◌, ◌*◌, ◌^◌, ◌<◌, ◌≤◌, false, List, [], ◌∷◌, length, get_or}
use Rattle.std.proofs.Common.{take, map, refl, sym, ap, ap₂, subst, ◌∙◌, arith, lit<}
use mir.Syntax.{w128}
use Rattle.std.specs.Fmt.{digit_glyph}
use Rattle.std.proofs.lemmas.Int.{ints}
use Rattle.std.specs.Int.Digits.{number_from_digits_after}
use Rattle.std.specs.List.{All, AllByRecursion, fold}
use Rattle.std.proofs.Math.Nat.{pow-le-pow_right}
use Rattle.std.proofs.lemmas.Bool.Decides.{nat_tests}
use Rattle.std.proofs.lemmas.List.{length-map, length-take}
use Rattle.std.proofs.lemmas.List.Sums.{fold_more}
use Rattle.std.proofs.lemmas.List.Elements.{All-from_recursion, recursion_from_All}
use Rattle.pf_values.specs.meaning.Digits.{place_sum}
use Rattle.pf_values.specs.meaning.Text.{Text}
use Rattle.pf_values.proofs.Numerals.{number_after-place_sum, place_sum-lt}
use Rattle.fmtcanon.specs.ArgumentWords.{SpellsMagnitude}
use Rattle.fmtcanon.specs.declared.arguments.TheConstants.{MAX_DIGITS}

abbrev pub IsDigitByte : ℕ → Type 0
IsDigitByte byte = (48 ≤ byte) × (byte ≤ 57)

abbrev AreDigitBytes : Text → Type 0
AreDigitBytes = AllByRecursion IsDigitByte

abbrev step : ℕ → ℕ → ℕ
step n byte = n * 10 + (byte - 48)

-- the number that digits spell
abbrev pub number_read : Text → ℕ
number_read = fold step 0

abbrev values : Text → List ℕ
values = map (λ byte. byte - 48)

spelled_alone : (byte : ℕ) → IsDigitByte byte → digit_glyph false (byte - 48) ≡ byte
spelled_alone byte h = grind (arith, nat_tests)

values-spelled : (bytes : Text) → AreDigitBytes bytes → map (digit_glyph false) (values bytes) ≡ bytes
values-spelled [] h = refl
values-spelled (byte ∷ bytes) h = ap₂ (λ (x : ℕ) (xs : Text). x ∷ xs) (spelled_alone byte h.0) (values-spelled bytes h.1)

values-below : (bytes : Text) → AreDigitBytes bytes → AllByRecursion (λ d. d < 10) (values bytes)
values-below [] h = tt
values-below (byte ∷ bytes) h = (omega (arith, h.0), values-below bytes h.1)

fold-values : (n : ℕ) (bytes : Text) → fold step n bytes ≡ number_from_digits_after 10 n (values bytes)
fold-values n [] = refl
fold-values n (byte ∷ bytes) = fold-values (step n byte) bytes

place_sum-values : (bytes : Text) → place_sum 10 (values bytes) ≡ number_read bytes
place_sum-values bytes = omega (arith, fold-values 0 bytes, number_after-place_sum 10 0 (values bytes))

pub spells_read : (bytes : Text) → All IsDigitByte bytes → 1 ≤ length bytes → length bytes ≤ MAX_DIGITS → SpellsMagnitude bytes (number_read bytes)
spells_read bytes all some few =
    let h = recursion_from_All IsDigitByte bytes all in
    record {
      digits = values bytes;
      are_digits = record { below = values-below bytes h; sum = place_sum-values bytes };
      some = simp length-map some;
      few = simp length-map few;
      whole = sym (values-spelled bytes h);
    }

pub number_read-lt : (bytes : Text) → All IsDigitByte bytes → length bytes < MAX_DIGITS → number_read bytes < 10 ^ 19
number_read-lt bytes all few =
    let h = recursion_from_All IsDigitByte bytes all in
    let lt : place_sum 10 (values bytes) < 10 ^ length bytes = simp length-map at (place_sum-lt 10 (values bytes) (values-below bytes h)) in
    let few' : length bytes ≤ 19 = omega arith in
    let le : 10 ^ length bytes ≤ 10 ^ 19 = pow-le-pow_right (lit< tt) few' in
    omega (arith, place_sum-values bytes)

glyph_alone : (d : ℕ) → d < 10 → digit_glyph false d ≡ 48 + d
glyph_alone d h = grind (arith, nat_tests)

digit_bytes : (ds : List ℕ) → AllByRecursion (λ d. d < 10) ds → AreDigitBytes (map (digit_glyph false) ds)
digit_bytes [] h = tt
digit_bytes (d ∷ ds) h = let e = glyph_alone d h.0 in let lt = h.0 in ((omega arith, omega arith), digit_bytes ds h.1)

values-glyphs : (ds : List ℕ) → AllByRecursion (λ d. d < 10) ds → values (map (digit_glyph false) ds) ≡ ds
values-glyphs [] h = refl
values-glyphs (d ∷ ds) h = let e = glyph_alone d h.0 in ap₂ (λ (x : ℕ) (xs : List ℕ). x ∷ xs) (omega arith) (values-glyphs ds h.1)

-- a text that spells a number consists of this many digits, and the number is the one they are read
-- as
pub record IsRead (bytes : Text) (n : ℕ) : Type 0 where
  pub bytes_are : All IsDigitByte bytes
  pub some : 1 ≤ length bytes
  pub few : length bytes ≤ MAX_DIGITS
  pub number : n ≡ number_read bytes

pub read_only : (bytes : Text) (n : ℕ) → SpellsMagnitude bytes n → IsRead bytes n
read_only bytes n h =
    let same : length bytes ≡ length h.digits = ap length h.whole ∙ length-map h.digits (digit_glyph false) in
    let values_are : values bytes ≡ h.digits = ap values h.whole ∙ values-glyphs h.digits h.are_digits.below in
    record {
      bytes_are = All-from_recursion IsDigitByte bytes (subst AreDigitBytes (sym h.whole) (digit_bytes h.digits h.are_digits.below));
      some = omega (arith, h.some);
      few = omega (arith, h.few);
      number = sym h.are_digits.sum ∙ ap (place_sum 10) (sym values_are) ∙ place_sum-values bytes;
    }

-- one digit more
module _ (bytes : Text) (at : ℕ) (here : at < length bytes) (few : length bytes ≤ MAX_DIGITS) (before : All IsDigitByte (take at bytes)) where
  pub read_before-lt : number_read (take at bytes) < 10 ^ 19
  read_before-lt = number_read-lt (take at bytes) before (omega (arith, length-take at bytes))

  module _ (z digit : ℤ) (z_is : z ≡ pos (number_read (take at bytes))) (digit_is : digit ≡ pos (get_or bytes at 0 - 48))
      (is_digit : IsDigitByte (get_or bytes at 0)) where
    pub product_fits : FitsSigned w128 (z *ℤ pos 10)
    product_fits = let lt = read_before-lt in omega (arith, ints)

    pub sum_fits : FitsSigned w128 (to_z w128 (of_z w128 (z *ℤ pos 10)) +ℤ to_z w128 (of_z w128 digit))
    sum_fits = let lt = read_before-lt in omega (arith, ints)

    pub sum_is : to_z w128 (of_z w128 (to_z w128 (of_z w128 (z *ℤ pos 10)) +ℤ to_z w128 (of_z w128 digit))) ≡ pos (number_read (take (at + 1) bytes))
    sum_is =
        let lt = read_before-lt in
        let more : number_read (take (at + 1) bytes) ≡ number_read (take at bytes) * 10 + (get_or bytes at 0 - 48) = fold_more step 0 bytes at 0 here in
        omega (arith, ints)

-- the loop read all of the text
pub all_read : (bytes : Text) (at : ℕ) → length bytes ≤ at → (z : ℤ) → All IsDigitByte (take at bytes) → z ≡ pos (number_read (take at bytes))
    → 1 ≤ length bytes → length bytes ≤ MAX_DIGITS → (n : ℕ) × SpellsMagnitude bytes n × (z ≡ pos n)
all_read bytes at end z all e some few =
    let same = take_all at bytes end in (
      number_read bytes,
      spells_read bytes (subst (All IsDigitByte) same all) some few,
      e ∙ ap (λ t. pos (number_read t)) same,
    )
