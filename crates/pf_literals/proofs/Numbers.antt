-- Digits of numeric escape sequences, and what the code makes of them.
use Rattle.std.proofs.Common.{◌≡◌, ◌≢◌, ℕ, suc, ◌+◌, ◌*◌, ◌<◌, ◌≤◌, true, false, [], ◌∷◌, ◌++◌, length, drop, refl, sym, ap, ◌∙◌, arith, inl, inr}
use Rattle.std.specs.Prelude.{◌==◌, not, nat_lt}
use Rattle.std.specs.List.{AllByRecursion}
use Rattle.std.proofs.lemmas.Bool.{and_from, and_left, and_right, cases_lt, not_from_false, not_from_true}
use Rattle.std.proofs.lemmas.Bool.Decides.{nat_tests}
use Rattle.pf_literals.specs.declared.faults.LiteralKind.TheVariants.{EscapeTooLarge}
use Rattle.pf_literals.specs.declared.notations.Notation.{Notation}
use Rattle.pf_literals.specs.declared.notations.Notation.TheVariants.{Octal, Hexadecimal}
use Rattle.pf_literals.specs.declared.tokens.Token.TheVariants.{Character, Invalid}
use Rattle.pf_literals.specs.Elements.{Bytes, AllowsDigitCount, base, digit_value, has_more_digits, is_escape_digit, is_full, escape_number_after}
use Rattle.pf_literals.specs.Tokens.{numeric_at_end, before_digits, numeric_token, finished_numeric}

-- digits of a notation
abbrev pub Each : Notation → Bytes → Type 0
Each notation digits = AllByRecursion (λ digit. is_escape_digit notation digit ≡ true) digits

-- more digits make no smaller number
pub number_after-ge : (notation : Notation) (digits : Bytes) (number : ℕ) → number ≤ escape_number_after notation number digits
number_after-ge notation [] number = omega arith
number_after-ge Octal (d ∷ ds) number = let more = number_after-ge Octal ds (8 * number + digit_value d) in omega arith
number_after-ge Hexadecimal (d ∷ ds) number = let more = number_after-ge Hexadecimal ds (16 * number + digit_value d) in omega arith

pub number_after-push : (notation : Notation) (digits : Bytes) (number d : ℕ)
    → escape_number_after notation number (digits ++ d ∷ []) ≡ base notation * escape_number_after notation number digits + digit_value d
number_after-push notation [] number d = refl
number_after-push notation (e ∷ digits) number d = number_after-push notation digits (base notation * number + digit_value e) d

pub not_full : (notation : Notation) (count more : ℕ) → AllowsDigitCount notation (count + suc more) → is_full notation count ≡ false
not_full Octal count more room = grind (arith, nat_tests)
not_full Hexadecimal count more room = refl

pub same_room : (notation : Notation) (count other : ℕ) → count ≡ other → AllowsDigitCount notation count → AllowsDigitCount notation other
same_room Octal count other e room = omega (arith, e, room)
same_room Hexadecimal count other e room = tt

cons_some : (byte : ℕ) (rest : Bytes) → byte ∷ rest ≢ []
cons_some byte rest e = cc

pub small : (n : ℕ) → n ≤ 255 → nat_lt 255 n ≡ false
small n h = grind (arith, nat_tests)

pub large : (n : ℕ) → 255 < n → nat_lt 255 n ≡ true
large n h = grind (arith, nat_tests)

pub some_count : (n : ℕ) → 0 < n → (n == 0) ≡ false
some_count n h = grind (arith, nat_tests)

module _ (notation : Notation) where
  -- one more digit
  pub goes : (count d : ℕ) (rest : Bytes) → is_full notation count ≡ false → is_escape_digit notation d ≡ true
      → has_more_digits notation count (d ∷ rest) ≡ true
  goes count d rest room digit = and_from _ _ (not_from_false _ room) digit

  numeric_token-one : (count number d : ℕ) (rest : Bytes) → has_more_digits notation count (d ∷ rest) ≡ true → base notation * number + digit_value d ≤ 255
      → numeric_token notation count number (d ∷ rest) ≡ numeric_token notation (count + 1) (base notation * number + digit_value d) rest
  numeric_token-one count number d rest on few = let fits = small (base notation * number + digit_value d) few in rw (on, fits) refl

  -- digits of a number that fits
  pub numeric_token-digits : (digits rest : Bytes) (count number : ℕ) → Each notation digits → AllowsDigitCount notation (count + length digits)
      → escape_number_after notation number digits ≤ 255 → numeric_token notation count number (digits ++ rest) ≡ numeric_token notation
      (count + length digits) (escape_number_after notation number digits) rest
  numeric_token-digits [] rest count number h room few = let same : count ≡ count + 0 = omega arith in ap (λ c. numeric_token notation c number rest) same
  numeric_token-digits (d ∷ ds) rest count number h room few =
      let more = number_after-ge notation ds (base notation * number + digit_value d) in
      let on = goes count d (ds ++ rest) (not_full notation count (length ds) room) h.0 in
      let same : count + 1 + length ds ≡ count + suc (length ds) = omega arith in
      numeric_token-one count number d (ds ++ rest) on (omega arith)
      ∙ numeric_token-digits ds rest (count + 1) (base notation * number + digit_value d) h.1 (same_room notation _ _ (sym same) room) few
      ∙ ap (λ c. numeric_token notation c (escape_number_after notation (base notation * number + digit_value d) ds) rest) same

  -- digits of one that doesn't
  pub numeric_token-large : (digits rest : Bytes) (count number : ℕ) → Each notation digits → AllowsDigitCount notation (count + length digits)
      → number ≤ 255 → 255 < escape_number_after notation number digits → numeric_token notation count number (digits ++ rest) ≡ Invalid EscapeTooLarge 0
  numeric_token-large [] rest count number h room few many = absurd (omega arith)
  numeric_token-large (d ∷ ds) rest count number h room few many =
      let on = goes count d (ds ++ rest) (not_full notation count (length ds) room) h.0 in
      let next = base notation * number + digit_value d in
      let same : count + 1 + length ds ≡ count + suc (length ds) = omega arith in
      elim (cases_lt 255 next) [
        | inl more ↦ let over = large next more in rw (on, over) refl
        | inr le ↦ numeric_token-one count number d (ds ++ rest) on le
            ∙ numeric_token-large ds rest (count + 1) next h.1 (same_room notation _ _ (sym same) room) le many
      ]

  -- no more digits
  pub numeric_token-ends : (rest : Bytes) (count number : ℕ) → has_more_digits notation count rest ≡ false → 0 < count → 0 < number
      → numeric_token notation count number rest ≡ Character number (before_digits notation + count)
  numeric_token-ends [] count number none some value =
      let a = some_count count some in
      let b = some_count number value in
      rw (b, a) refl
  numeric_token-ends (byte ∷ rest) count number none some value =
      let a = some_count count some in
      let b = some_count number value in
      rw (none, b, a) refl

  numeric_token-off : (rest : Bytes) (count number : ℕ) → has_more_digits notation count rest ≡ false → rest ≢ []
      → numeric_token notation count number rest ≡ finished_numeric notation count number
  numeric_token-off [] count number none some = absurd (some refl)
  numeric_token-off (byte ∷ rest) count number none some = rw none refl

  end_full : (count number : ℕ) → is_full notation count ≡ true → numeric_at_end notation count number ≡ finished_numeric notation count number
  end_full count number full = let none = and_right (number == 0) (not (is_full notation count)) (not_from_true _ full) in rw none refl

  -- The text, with this number of its digits read.
  module _ (text : Bytes) (count number : ℕ) (so_far : numeric_token notation 0 0 text ≡ numeric_token notation count number (drop count text)) where
    pub stops_full : is_full notation count ≡ true → numeric_token notation 0 0 text ≡ finished_numeric notation count number
    stops_full full = so_far ∙ go (drop count text) where
      go : (rest : Bytes) → numeric_token notation count number rest ≡ finished_numeric notation count number
      go [] = end_full count number full
      go (byte ∷ rest) = numeric_token-off (byte ∷ rest) count number
          (and_left (not (is_full notation count)) (is_escape_digit notation byte) (not_from_true _ full)) (cons_some byte rest)
