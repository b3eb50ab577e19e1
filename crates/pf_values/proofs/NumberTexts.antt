-- What is printed of a number, as a sign or prefix, zeros and digits.
use Rattle.std.proofs.Common.{◌≡◌, ℕ, ◌+◌, ◌-◌, max, Bool, false, ◌++◌, length, refl, ap, ◌∙◌, ℤ}
use Rattle.std.specs.Prelude.{nat_abs}
use Rattle.std.proofs.lemmas.List.{length-append, length-map, length-replicate}
use Rattle.pf_values.specs.meaning.Conversions.{base_of, is_upper}
use Rattle.pf_values.specs.meaning.Normal.{precision_of}
use Rattle.pf_values.specs.meaning.Printing.{is_zero_filled, sign_or_prefix}
use Rattle.pf_values.specs.meaning.Specification.{Specification}
use Rattle.pf_values.specs.meaning.Text.{Text}
use Rattle.pf_values.proofs.Printed.{count_of, natural_of, printed_digits-is, printed_precision, zero_digits}
use Rattle.pf_values.proofs.PrintsOnce.{value_text}

-- the bytes of a value with some precision
abbrev pub number_text : Specification → ℕ → ℤ → Text
number_text s precision v = sign_or_prefix s v ++ zero_digits (base_of s.conv) (is_upper s.conv)
    (max precision (natural_of s (nat_abs v)) - count_of (base_of s.conv) (nat_abs v)) (nat_abs v)

pub value_text-is : (s : Specification) (v : ℤ) → value_text s v ≡ number_text s (printed_precision s v) v
value_text-is s v = ap (λ t. sign_or_prefix s v ++ t) (printed_digits-is s (printed_precision s v) (nat_abs v))

pub length-zero_digits : (base : ℕ) (upper : Bool) (k n : ℕ) → length (zero_digits base upper k n) ≡ k + count_of base n
length-zero_digits base upper k n = simp (length-append, length-replicate, length-map)

-- without the flag `0` the precision is the given one
pub value_text-unfilled : (s : Specification) (v : ℤ) → is_zero_filled s ≡ false → value_text s v ≡ number_text s (precision_of s) v
value_text-unfilled s v none = value_text-is s v ∙ ap (λ p. number_text s p v) (rw none refl)
