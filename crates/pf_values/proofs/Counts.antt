-- How many digits a value has at most, by its bits.
use Rattle.std.proofs.Common.{◌≡◌, ℕ, suc, ◌-◌, ◌^◌, ◌<◌, ◌≤◌, true, false, arith, ℤ, pos, negsuc}
use Rattle.std.specs.Prelude.{nat_abs}
use Rattle.std.proofs.lemmas.Int.{ints}
use Rattle.std.proofs.lemmas.Int.Digits.{length-digits_of-le, length-digits_of_step}
use Rattle.pf_values.specs.declared.bases.Base.{Base}
use Rattle.pf_values.specs.declared.bases.Base.TheVariants.{Binary, Octal, Decimal, Hexadecimal}
use Rattle.pf_values.specs.declared.conversions.Conv.{Conv}
use Rattle.pf_values.specs.declared.conversions.Kind.{Kind}
use Rattle.pf_values.specs.declared.conversions.Kind.TheVariants as kinds
use Rattle.pf_values.specs.meaning.Bases.{most_digits_in, number_of}
use Rattle.pf_values.specs.meaning.Bits.{Bits, B8, B16, B32, B64, bit_count}
use Rattle.pf_values.specs.meaning.Conversions.{
  base_of,
  base_under,
  is_signed,
  is_text,
  kind_of,
  prints_signed,
  prints_text,
}
use Rattle.pf_values.specs.meaning.DataModel.{FitsIn, most_digits, most_digits_of}
use Rattle.pf_values.proofs.Printed.{count_of}

-- the largest value of this many bits has its digits in a base
unsigned : (base count bits : ℕ) (v : ℤ) → 2 ≤ base → 2 ^ bits ≤ base ^ count → FitsIn false bits v → count_of base (nat_abs v) ≤ count
unsigned base count bits (pos n) b most h = length-digits_of-le base count n b (let lt = h.1 in omega (arith, ints))
unsigned base count bits (negsuc n) b most h = absurd (omega (arith, ints))

-- the smallest value has the largest size
signed : (base count bits : ℕ) (v : ℤ) → 2 ≤ base → 2 ^ (bits - 1) < base ^ count → FitsIn true bits v → count_of base (nat_abs v) ≤ count
signed base count bits (pos n) b most h = length-digits_of-le base count n b (let lt = h.1 in omega (arith, ints))
signed base count bits (negsuc n) b most h = length-digits_of-le base count (suc n) b (let ge = h.0 in omega (arith, ints))

most_signed : (bits : Bits) (v : ℤ) → FitsIn true (bit_count bits) v
    → count_of 10 (nat_abs v) ≤ most_digits_of kinds.Signed bits
most_signed B8 v h = signed 10 3 8 v (omega arith) (omega arith) h
most_signed B16 v h = signed 10 5 16 v (omega arith) (omega arith) h
most_signed B32 v h = signed 10 10 32 v (omega arith) (omega arith) h
most_signed B64 v h = signed 10 19 64 v (omega arith) (omega arith) h

most_unsigned : (base : Base) (bits : Bits) (v : ℤ) → FitsIn false (bit_count bits) v
    → count_of (number_of base) (nat_abs v) ≤ most_digits_in base bits
most_unsigned Binary B8 v h = unsigned 2 8 8 v (omega arith) (omega arith) h
most_unsigned Binary B16 v h = unsigned 2 16 16 v (omega arith) (omega arith) h
most_unsigned Binary B32 v h = unsigned 2 32 32 v (omega arith) (omega arith) h
most_unsigned Binary B64 v h = unsigned 2 64 64 v (omega arith) (omega arith) h
most_unsigned Octal B8 v h = unsigned 8 3 8 v (omega arith) (omega arith) h
most_unsigned Octal B16 v h = unsigned 8 6 16 v (omega arith) (omega arith) h
most_unsigned Octal B32 v h = unsigned 8 11 32 v (omega arith) (omega arith) h
most_unsigned Octal B64 v h = unsigned 8 22 64 v (omega arith) (omega arith) h
most_unsigned Decimal B8 v h = unsigned 10 3 8 v (omega arith) (omega arith) h
most_unsigned Decimal B16 v h = unsigned 10 5 16 v (omega arith) (omega arith) h
most_unsigned Decimal B32 v h = unsigned 10 10 32 v (omega arith) (omega arith) h
most_unsigned Decimal B64 v h = unsigned 10 20 64 v (omega arith) (omega arith) h
most_unsigned Hexadecimal B8 v h = unsigned 16 2 8 v (omega arith) (omega arith) h
most_unsigned Hexadecimal B16 v h = unsigned 16 4 16 v (omega arith) (omega arith) h
most_unsigned Hexadecimal B32 v h = unsigned 16 8 32 v (omega arith) (omega arith) h
most_unsigned Hexadecimal B64 v h = unsigned 16 16 64 v (omega arith) (omega arith) h

most_of : (k : Kind) (bits : Bits) → prints_text k ≡ false → (v : ℤ)
    → FitsIn (prints_signed k) (bit_count bits) v
    → count_of (number_of (base_under k)) (nat_abs v) ≤ most_digits_of k bits
most_of kinds.Signed bits e v h = most_signed bits v h
most_of (kinds.Unsigned base capitals) bits e v h = most_unsigned base bits v h
most_of kinds.Char bits e v h = cc
most_of kinds.String bits e v h = cc

pub count-le : (conv : Conv) (bits : Bits) → is_text conv ≡ false → (v : ℤ)
    → FitsIn (is_signed conv) (bit_count bits) v
    → count_of (base_of conv) (nat_abs v) ≤ most_digits conv bits
count-le conv bits e v h = most_of (kind_of conv) bits e v h

-- a number other than 0 has a digit
pub count-ge : (base n : ℕ) → 2 ≤ base → 1 ≤ n → 1 ≤ count_of base n
count-ge base n b h = omega (arith, length-digits_of_step base n b h)
