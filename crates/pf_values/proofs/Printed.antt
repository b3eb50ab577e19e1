-- For each directive and argument of its type there is one text that it prints.
use Rattle.std.proofs.Common.{◌≡◌, ℕ, zero, suc, ◌+◌, ◌-◌, ◌<◌, ◌≤◌, max, Bool, true, false, List, [], ◌∷◌, ◌++◌, length, get_or, map, replicate, refl, sym, ap, ◌∙◌}
use Rattle.std.proofs.Common.{arith, ℤ}
use Rattle.std.specs.Prelude.{◌&&◌, ◌==◌, not, nat_abs, Option, Some, None, is_none, unwrap_or, nat_lt, if◌then◌else◌}
use Rattle.pf_values.specs.declared.bases.Base.{Base}
use Rattle.pf_values.specs.declared.bases.Base.TheVariants.{Binary, Octal, Decimal, Hexadecimal}
use Rattle.pf_values.specs.declared.conversions.Conv.{Conv}
use Rattle.pf_values.specs.declared.conversions.Conv.TheVariants.{O}
use Rattle.std.specs.Fmt.{digit_glyph}
use Rattle.std.specs.Int.Digits.{digits_of}
use Rattle.std.proofs.lemmas.Bool.{false≢true}
use Rattle.std.proofs.lemmas.Bool.Decides.{nat_tests}
use Rattle.std.proofs.lemmas.Int.Digits.{first_digits_of}
use Rattle.std.proofs.lemmas.List.{append_assoc, length-append, length-map, replicate-append-replicate}
use Rattle.pf_values.specs.meaning.Digits.{IsNumeral}
use Rattle.pf_values.specs.meaning.Flags.{has}
use Rattle.pf_values.specs.meaning.Bases.{number_of}
use Rattle.pf_values.specs.meaning.Conversions.{base_of, base_under, is_octal, is_upper, kind_of}
use Rattle.pf_values.specs.declared.flags.Flag.TheVariants.{Alt, Minus, Zero}
use Rattle.pf_values.specs.meaning.Printing.{AreDigitsOf, from_zero, is_zero_filled, sign_or_prefix, zeros}
use Rattle.pf_values.specs.meaning.Specification.{Specification, width_of}
use Rattle.pf_values.specs.meaning.Text.{Text}
use Rattle.pf_values.proofs.Numerals.{least_digits, length-least_digits, AreLeastDigits-exist, AreLeastDigits-unique}

abbrev pub numeral : ℕ → Bool → ℕ → ℕ → Text
numeral base upper least n = map (digit_glyph upper) (least_digits base least n)

pub IsNumeral-exists : (base : ℕ) (upper : Bool) (least n : ℕ) → 2 ≤ base → IsNumeral base upper least n (numeral base upper least n)
IsNumeral-exists base upper least n b = (least_digits base least n, AreLeastDigits-exist base least n b, refl)

pub IsNumeral-unique : (base : ℕ) (upper : Bool) (least n : ℕ) (t : Text) → 2 ≤ base → IsNumeral base upper least n t → t ≡ numeral base upper least n
IsNumeral-unique base upper least n t b h = h.2 ∙ ap (map (digit_glyph upper))
    (AreLeastDigits-unique base least n h.0 _ b h.1 (AreLeastDigits-exist base least n b))

-- how many digits a number has in a base, none for 0
abbrev pub count_of : ℕ → ℕ → ℕ
count_of base n = length (digits_of base n)

pub length-numeral : (base : ℕ) (upper : Bool) (least n : ℕ) → length (numeral base upper least n) ≡ max least (count_of base n)
length-numeral base upper least n = length-map _ _ ∙ omega (arith, length-least_digits base least n)

first_above_zero : (base n : ℕ) → 2 ≤ base → 0 < length (digits_of base n) → 0 < get_or (digits_of base n) 0 0
first_above_zero base zero b h = absurd (omega arith)
first_above_zero base (suc n) b h = first_digits_of base (suc n) b (omega arith)

-- the precision with which an octal number begins with 0
abbrev pub octal_precision : ℕ → ℕ → ℕ
octal_precision precision n = max precision (suc (count_of 8 n))

not_zero : (d : ℕ) → 0 < d → (digit_glyph false d == 48) ≡ false
not_zero d h = grind (arith, nat_tests)

begins : (k : ℕ) (ds : List ℕ) → (0 < length ds → 0 < get_or ds 0 0)
    → from_zero (map (digit_glyph false) (replicate k 0 ++ ds)) ≡ map (digit_glyph false) (replicate (max k 1) 0 ++ ds)
begins zero [] f = refl
begins zero (d ∷ ds) f = rw (not_zero d (f (omega arith))) refl
begins (suc k) ds f = let m : max (suc k) 1 ≡ suc k = omega arith in rw m refl

-- a `0` before octal digits, unless they begin with one, is one more of precision
from_zero-numeral : (precision n : ℕ) → from_zero (numeral 8 false precision n) ≡ numeral 8 false (octal_precision precision n) n
from_zero-numeral precision n =
    begins (precision - count_of 8 n) (digits_of 8 n) (first_above_zero 8 n (omega arith))
    ∙ ap (λ k. map (digit_glyph false) (replicate k 0 ++ digits_of 8 n)) (omega arith)

-- the digits of a number, from 0 or not
abbrev pub digits_under : Bool → ℕ → Bool → ℕ → ℕ → Text
digits_under true base upper precision n = numeral 8 false (octal_precision precision n) n
digits_under false base upper precision n = numeral base upper precision n

abbrev pub is_raised : Specification → Bool
is_raised s = is_octal s.conv && has s.flags Alt

abbrev pub printed_digits : Specification → ℕ → ℕ → Text
printed_digits s precision n = digits_under (is_raised s) (base_of s.conv) (is_upper s.conv) precision n

from_two : (base : Base) → 2 ≤ number_of base
from_two Binary = omega arith
from_two Octal = omega arith
from_two Decimal = omega arith
from_two Hexadecimal = omega arith

pub base_from_two : (conv : Conv) → 2 ≤ base_of conv
base_from_two conv = from_two (base_under (kind_of conv))

-- how many digits are printed at precision 0
abbrev pub natural_len : Bool → ℕ → ℕ → ℕ
natural_len true base n = suc (count_of 8 n)
natural_len false base n = count_of base n

length_under : (b : Bool) (base : ℕ) (upper : Bool) (precision n : ℕ) → length (digits_under b base upper precision n) ≡ max precision (natural_len b base n)
length_under true base upper precision n = omega (arith, length-numeral 8 false (octal_precision precision n) n)
length_under false base upper precision n = length-numeral base upper precision n

abbrev pub natural_of : Specification → ℕ → ℕ
natural_of s n = natural_len (is_raised s) (base_of s.conv) n

pub length-printed_digits : (s : Specification) (precision n : ℕ) → length (printed_digits s precision n) ≡ max precision (natural_of s n)
length-printed_digits s precision n = length_under (is_raised s) (base_of s.conv) (is_upper s.conv) precision n

-- what the flag `0` makes the precision
abbrev pub filled_precision : ℕ → ℕ → ℕ → ℕ
filled_precision width front_len natural = if nat_lt (front_len + max 1 natural) width then width - front_len else 1

abbrev pub precision_under : Bool → Specification → ℤ → ℕ
precision_under true s value = filled_precision (width_of s) (length (sign_or_prefix s value)) (natural_of s (nat_abs value))
precision_under false s value = unwrap_or s.precision 1

abbrev pub printed_precision : Specification → ℤ → ℕ
printed_precision s value = precision_under (is_zero_filled s) s value

map_zeros : (upper : Bool) (k : ℕ) (ds : List ℕ) → map (digit_glyph upper) (replicate k 0 ++ ds) ≡ replicate k 48 ++ map (digit_glyph upper) ds
map_zeros upper zero ds = refl
map_zeros upper (suc k) ds = ap (λ t. 48 ∷ t) (map_zeros upper k ds)

-- zeros, and then the digits
abbrev pub zero_digits : ℕ → Bool → ℕ → ℕ → Text
zero_digits base upper zeros n = replicate zeros 48 ++ map (digit_glyph upper) (digits_of base n)

-- the digits of a number are zeros and its digits, where they begin with 0 in base eight alone
filled_under : (raised : Bool) (base : ℕ) (upper : Bool) (precision n : ℕ)
    → (raised ≡ true → (base ≡ 8) × (upper ≡ false))
    → digits_under raised base upper precision n
    ≡ zero_digits base upper (max precision (natural_len raised base n) - count_of base n) n
filled_under true base upper precision n eight =
    let e = eight refl in rw (e.0, e.1) (map_zeros false _ (digits_of 8 n))
filled_under false base upper precision n eight =
    map_zeros upper _ (digits_of base n) ∙ ap (λ k. zero_digits base upper k n) (omega arith)

raised_is : (conv : Conv) (alt : Bool) → (is_octal conv && alt) ≡ true
    → (base_of conv ≡ 8) × (is_upper conv ≡ false)
raised_is O alt e = (refl, refl)
raised_is _ alt e = absurd (cc)

-- how many zeros come before the digits
abbrev pub zeros_of : Specification → ℕ → ℕ → ℕ
zeros_of s precision n = max precision (natural_of s n) - count_of (base_of s.conv) n

pub printed_digits-is : (s : Specification) (precision n : ℕ)
    → printed_digits s precision n ≡ zero_digits (base_of s.conv) (is_upper s.conv) (zeros_of s precision n) n
printed_digits-is s precision n =
    let raised = raised_is s.conv (has s.flags Alt) in
    filled_under (is_raised s) (base_of s.conv) (is_upper s.conv) precision n raised

shown_under : (raised : Bool) (base : ℕ) (upper : Bool) (precision n : ℕ)
    → (raised ≡ true → (base ≡ 8) × (upper ≡ false))
    → (if raised then from_zero (numeral base upper precision n) else numeral base upper precision n)
    ≡ digits_under raised base upper precision n
shown_under true base upper precision n eight = let e = eight refl in rw (e.0, e.1) (from_zero-numeral precision n)
shown_under false base upper precision n eight = refl

-- the digits that are printed without zeros that pad them
abbrev pub plain_digits : Specification → ℕ → Text
plain_digits s n = printed_digits s (unwrap_or s.precision 1) n

shown : (s : Specification) (n : ℕ)
    → (if is_raised s then from_zero (numeral (base_of s.conv) (is_upper s.conv) (unwrap_or s.precision 1) n)
    else numeral (base_of s.conv) (is_upper s.conv) (unwrap_or s.precision 1) n) ≡ plain_digits s n
shown s n = shown_under (is_raised s) (base_of s.conv) (is_upper s.conv) (unwrap_or s.precision 1) n (raised_is s.conv (has s.flags Alt))

pub AreDigitsOf-exist : (s : Specification) (n : ℕ) → AreDigitsOf s n (plain_digits s n)
AreDigitsOf-exist s n = (_, IsNumeral-exists _ _ _ n (base_from_two s.conv), sym (shown s n))

pub AreDigitsOf-unique : (s : Specification) (n : ℕ) (t : Text) → AreDigitsOf s n t → t ≡ plain_digits s n
AreDigitsOf-unique s n t h =
    h.2
    ∙ ap (λ u. if is_raised s then from_zero u else u) (IsNumeral-unique _ _ _ n h.0 (base_from_two s.conv) h.1)
    ∙ shown s n

natural_from : (raised : Bool) (base : ℕ) (upper : Bool) (n : ℕ) → (raised ≡ true → (base ≡ 8) × (upper ≡ false))
    → count_of base n ≤ natural_len raised base n
natural_from true base upper n eight = let e = eight refl in rw (e.0) (omega arith)
natural_from false base upper n eight = omega arith

zeros_joined : (base : ℕ) (upper : Bool) (j k n : ℕ) → replicate j 48 ++ zero_digits base upper k n ≡ zero_digits base upper (j + k) n
zeros_joined base upper j k n =
    sym (append_assoc (replicate j 48) (replicate k 48) (map (digit_glyph upper) (digits_of base n)))
    ∙ ap (λ t. t ++ map (digit_glyph upper) (digits_of base n)) (replicate-append-replicate j k 48)

-- zeros up to the width, and those before the digits
fill_count : (width front_len natural count : ℕ) → count ≤ natural
    → width - (front_len + max 1 natural) + (max 1 natural - count) ≡ max (filled_precision width front_len natural) natural - count
fill_count width front_len natural count h = grind (arith, nat_tests, h)

one_if : (a b : Bool) (p : Option ℕ) → (a && b && is_none p) ≡ true → unwrap_or p 1 ≡ 1
one_if a b None e = refl
one_if true true (Some p) e = absurd (false≢true e)
one_if true false (Some p) e = absurd (false≢true e)
one_if false b (Some p) e = absurd (false≢true e)

one_given : (s : Specification) → is_zero_filled s ≡ true → unwrap_or s.precision 1 ≡ 1
one_given s e = one_if (has s.flags Zero) (not (has s.flags Minus)) s.precision e

module _ (s : Specification) (value : ℤ) where
  missing : width_of s - length (sign_or_prefix s value ++ printed_digits s 1 (nat_abs value))
      ≡ width_of s - (length (sign_or_prefix s value) + max 1 (natural_of s (nat_abs value)))
  missing = omega (
    arith,
    length-append (sign_or_prefix s value) (printed_digits s 1 (nat_abs value)),
    length-printed_digits s 1 (nat_abs value),
  )

  joined : replicate (width_of s - (length (sign_or_prefix s value) + max 1 (natural_of s (nat_abs value)))) 48
      ++ printed_digits s 1 (nat_abs value) ≡ printed_digits s (precision_under true s value) (nat_abs value)
  joined =
      let n = nat_abs value in
      let k = width_of s - (length (sign_or_prefix s value) + max 1 (natural_of s n)) in
      ap (λ t. replicate k 48 ++ t) (printed_digits-is s 1 n)
      ∙ zeros_joined (base_of s.conv) (is_upper s.conv) k (zeros_of s 1 n) n
      ∙ ap (λ z. zero_digits (base_of s.conv) (is_upper s.conv) z n)
      (fill_count (width_of s) (length (sign_or_prefix s value)) (natural_of s n) (count_of (base_of s.conv) n)
      (natural_from (is_raised s) (base_of s.conv) (is_upper s.conv) n (raised_is s.conv (has s.flags Alt))))
      ∙ sym (printed_digits-is s (precision_under true s value) n)

  filled_with : (p : ℕ) → p ≡ 1
      → replicate (width_of s - length (sign_or_prefix s value ++ printed_digits s p (nat_abs value))) 48
      ++ printed_digits s p (nat_abs value) ≡ printed_digits s (precision_under true s value) (nat_abs value)
  filled_with p e = rw (e, missing) joined

  padded_under : (b : Bool) → (b ≡ true → unwrap_or s.precision 1 ≡ 1)
      → (if b then replicate (width_of s - length (sign_or_prefix s value ++ plain_digits s (nat_abs value))) 48 else [])
      ++ plain_digits s (nat_abs value) ≡ printed_digits s (precision_under b s value) (nat_abs value)
  padded_under true one = filled_with (unwrap_or s.precision 1) (one refl)
  padded_under false one = refl

-- zeros that pad to the width are another precision
pub padded_digits : (s : Specification) (value : ℤ)
    → sign_or_prefix s value ++ zeros s (sign_or_prefix s value ++ plain_digits s (nat_abs value)) ++ plain_digits s (nat_abs value)
    ≡ sign_or_prefix s value ++ printed_digits s (printed_precision s value) (nat_abs value)
padded_digits s value =
    append_assoc (sign_or_prefix s value) _ (plain_digits s (nat_abs value))
    ∙ ap (λ t. sign_or_prefix s value ++ t) (padded_under s value (is_zero_filled s) (one_given s))
