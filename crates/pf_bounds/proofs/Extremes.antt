-- The value of each type that has the most digits.
use Rattle.std.proofs.Common.{◌≡◌, ℕ, suc, ◌-◌, ◌^◌, ◌<◌, ◌≤◌, Bool, true, false, length, refl, arith, inl, inr, ℤ, pos, negsuc}
use Rattle.std.specs.Prelude.{nat_abs, IsFalse}
use Rattle.std.proofs.Math.Nat.{pow-le-pow_right}
use Rattle.std.proofs.lemmas.Bool.{cases_lt}
use Rattle.std.proofs.lemmas.Int.{ints}
use Rattle.std.proofs.lemmas.Int.Digits.{all_below_base_digits_of, number_digits_of, number_lt}
use Rattle.std.specs.Int.Digits.{digits_of}
use Rattle.pf_values.specs.declared.bases.Base.{Base}
use Rattle.pf_values.specs.declared.bases.Base.TheVariants.{Binary, Octal, Decimal, Hexadecimal}
use Rattle.pf_values.specs.declared.conversions.Kind.{Kind}
use Rattle.pf_values.specs.declared.conversions.Kind.TheVariants as kinds
use Rattle.pf_values.specs.declared.lengths.Length.{Length}
use Rattle.pf_values.specs.declared.models.Model.{Model}
use Rattle.pf_values.specs.meaning.Arguments.{HasType, IsConverted, Number}
use Rattle.pf_values.specs.meaning.Bases.{most_digits_in, number_of}
use Rattle.pf_values.specs.meaning.Bits.{Bits, B8, B16, B32, B64, bit_count}
use Rattle.pf_values.specs.meaning.Conversions.{base_under, prints_signed, prints_text}
use Rattle.pf_values.specs.meaning.DataModel.{FitsIn, IsInRange, bits_under, most_digits_of, type_of_kind}
use Rattle.pf_values.specs.meaning.Printing.{front_under, is_zero}
use Rattle.pf_values.specs.meaning.Specification.{Specification}
use Rattle.pf_values.proofs.DataModelLemmas.{each_row}
use Rattle.pf_values.proofs.Printed.{count_of}

count-gt : (base k n : ℕ) → 2 ≤ base → base ^ k ≤ n → k < count_of base n
count-gt base k n h g =
    elim (cases_lt k (count_of base n)) [
      | inl lt ↦ lt
      | inr le ↦
          let below = number_lt base (digits_of base n) (all_below_base_digits_of base n h) in
          let grows : base ^ count_of base n ≤ base ^ k = pow-le-pow_right (omega arith) le in
          absurd (omega (arith, below, number_digits_of base n h))
    ]

-- the smallest of the signed numbers, and the largest of the others
abbrev pub extreme : Bool → Bits → ℤ
extreme true bits = negsuc (2 ^ (bit_count bits - 1) - 1)
extreme false bits = pos (2 ^ bit_count bits - 1)

pub extreme_fits : (signed : Bool) (bits : Bits) → FitsIn signed (bit_count bits) (extreme signed bits)
extreme_fits true B8 = (omega (arith, ints), omega (arith, ints))
extreme_fits true B16 = (omega (arith, ints), omega (arith, ints))
extreme_fits true B32 = (omega (arith, ints), omega (arith, ints))
extreme_fits true B64 = (omega (arith, ints), omega (arith, ints))
extreme_fits false B8 = (omega (arith, ints), omega (arith, ints))
extreme_fits false B16 = (omega (arith, ints), omega (arith, ints))
extreme_fits false B32 = (omega (arith, ints), omega (arith, ints))
extreme_fits false B64 = (omega (arith, ints), omega (arith, ints))

-- a number from a power of the base on has more digits than that says
count-from : (base k most n : ℕ) → 2 ≤ base → most ≡ suc k → base ^ k ≤ n → most ≤ count_of base n
count-from base k most n b e h = omega (arith, e, count-gt base k n b h)

most_signed : (bits : Bits) → most_digits_of kinds.Signed bits ≤ count_of 10 (nat_abs (extreme true bits))
most_signed B8 = count-from 10 2 3 (nat_abs (extreme true B8)) (omega arith) refl (omega arith)
most_signed B16 = count-from 10 4 5 (nat_abs (extreme true B16)) (omega arith) refl (omega arith)
most_signed B32 = count-from 10 9 10 (nat_abs (extreme true B32)) (omega arith) refl (omega arith)
most_signed B64 = count-from 10 18 19 (nat_abs (extreme true B64)) (omega arith) refl (omega arith)

most_unsigned : (base : Base) (bits : Bits) → most_digits_in base bits ≤ count_of (number_of base) (nat_abs (extreme false bits))
most_unsigned Binary B8 = count-from 2 7 8 (nat_abs (extreme false B8)) (omega arith) refl (omega arith)
most_unsigned Binary B16 = count-from 2 15 16 (nat_abs (extreme false B16)) (omega arith) refl (omega arith)
most_unsigned Binary B32 = count-from 2 31 32 (nat_abs (extreme false B32)) (omega arith) refl (omega arith)
most_unsigned Binary B64 = count-from 2 63 64 (nat_abs (extreme false B64)) (omega arith) refl (omega arith)
most_unsigned Octal B8 = count-from 8 2 3 (nat_abs (extreme false B8)) (omega arith) refl (omega arith)
most_unsigned Octal B16 = count-from 8 5 6 (nat_abs (extreme false B16)) (omega arith) refl (omega arith)
most_unsigned Octal B32 = count-from 8 10 11 (nat_abs (extreme false B32)) (omega arith) refl (omega arith)
most_unsigned Octal B64 = count-from 8 21 22 (nat_abs (extreme false B64)) (omega arith) refl (omega arith)
most_unsigned Decimal B8 = count-from 10 2 3 (nat_abs (extreme false B8)) (omega arith) refl (omega arith)
most_unsigned Decimal B16 = count-from 10 4 5 (nat_abs (extreme false B16)) (omega arith) refl (omega arith)
most_unsigned Decimal B32 = count-from 10 9 10 (nat_abs (extreme false B32)) (omega arith) refl (omega arith)
most_unsigned Decimal B64 = count-from 10 19 20 (nat_abs (extreme false B64)) (omega arith) refl (omega arith)
most_unsigned Hexadecimal B8 = count-from 16 1 2 (nat_abs (extreme false B8)) (omega arith) refl (omega arith)
most_unsigned Hexadecimal B16 = count-from 16 3 4 (nat_abs (extreme false B16)) (omega arith) refl (omega arith)
most_unsigned Hexadecimal B32 = count-from 16 7 8 (nat_abs (extreme false B32)) (omega arith) refl (omega arith)
most_unsigned Hexadecimal B64 = count-from 16 15 16 (nat_abs (extreme false B64)) (omega arith) refl (omega arith)

-- it has the most digits
pub extreme_count : (k : Kind) (bits : Bits) → IsFalse (prints_text k)
    → most_digits_of k bits ≤ count_of (number_of (base_under k)) (nat_abs (extreme (prints_signed k) bits))
extreme_count kinds.Signed bits e = most_signed bits
extreme_count (kinds.Unsigned base capitals) bits e = most_unsigned base bits
extreme_count kinds.Char bits e = cc
extreme_count kinds.String bits e = cc

not_zero : (bits : Bits) → is_zero (nat_abs (extreme false bits)) ≡ false
not_zero B8 = refl
not_zero B16 = refl
not_zero B32 = refl
not_zero B64 = refl

-- and the longest sign or prefix
pub extreme_front : (k : Kind) (bits : Bits) (s : Specification) → front_under k s (extreme (prints_signed k) bits) ≡ front_under k s (negsuc 0)
extreme_front kinds.Signed bits s = refl
extreme_front (kinds.Unsigned Binary capitals) bits s = rw (not_zero bits) refl
extreme_front (kinds.Unsigned Octal capitals) bits s = refl
extreme_front (kinds.Unsigned Decimal capitals) bits s = refl
extreme_front (kinds.Unsigned Hexadecimal capitals) bits s = rw (not_zero bits) refl
extreme_front kinds.Char bits s = refl
extreme_front kinds.String bits s = refl

-- a value is an argument that is converted to itself
pub converted_itself : (signed : Bool) (bits : Bits) (v : ℤ) → FitsIn signed (bit_count bits) v → IsConverted signed (bit_count bits) v v
converted_itself signed B8 v h = record { fits = h; times = pos 0; differs = omega (arith, ints) }
converted_itself signed B16 v h = record { fits = h; times = pos 0; differs = omega (arith, ints) }
converted_itself signed B32 v h = record { fits = h; times = pos 0; differs = omega (arith, ints) }
converted_itself signed B64 v h = record { fits = h; times = pos 0; differs = omega (arith, ints) }

in_row : (model : Model) (v : ℤ) (length : Length) → (FitsIn true (bit_count (bits_under model length)) v
    → IsInRange model (type_of_kind model kinds.Signed length) v)
    × (FitsIn false (bit_count (bits_under model length)) v → IsInRange model (type_of_kind model (kinds.Unsigned Decimal false) length) v)
in_row model v = each_row model (λ r. (FitsIn true (bit_count r.bits) v → IsInRange model r.signed v)
    × (FitsIn false (bit_count r.bits) v → IsInRange model r.unsigned v)) (
      (λ h. let a = h.0 in let b = h.1 in (omega (arith, ints), omega (arith, ints))),
      λ h. let a = h.0 in let b = h.1 in
          (omega (arith, ints), omega (arith, ints)),
    ) (
      (λ h. let a = h.0 in let b = h.1 in (omega (arith, ints), omega (arith, ints))),
      λ h. let a = h.0 in let b = h.1 in
          (omega (arith, ints), omega (arith, ints)),
    )
    (λ h. h, λ h. h) (λ h. h, λ h. h) (λ h. h, λ h. h)

-- of the expected type
pub value_typed : (model : Model) (k : Kind) (length : Length) (v : ℤ) → IsFalse (prints_text k)
    → FitsIn (prints_signed k) (bit_count (bits_under model length)) v
    → HasType model (Number v) (type_of_kind model k length)
value_typed model kinds.Signed length v e h = (in_row model v length).0 h
value_typed model (kinds.Unsigned base capitals) length v e h = (in_row model v length).1 h
value_typed model kinds.Char length v e h = cc
value_typed model kinds.String length v e h = cc
