-- Each number has one value in each range.
use Rattle.std.proofs.Common.{◌≡◌, ℕ, ◌-◌, ◌*◌, ◌/◌, ◌%◌, ◌^◌, ◌<◌, ◌≤◌, Bool, true, false, arith, inl, inr, ℤ, pos, negsuc, ◌+ℤ◌, ◌*ℤ◌}
use Rattle.std.specs.Prelude.{◌<ℤ◌, ◌≤ℤ◌, neg_ℤ, nat_lt, if◌then◌else◌}
use Rattle.std.proofs.lemmas.Bool.{cases_lt}
use Rattle.std.proofs.lemmas.Bool.Decides.{nat_tests}
use Rattle.std.proofs.lemmas.Int.{ints}
use Rattle.pf_values.specs.meaning.Arguments.{IsConverted}
use Rattle.pf_values.specs.meaning.DataModel.{Bits, B8, B16, B32, B64, FitsIn, bit_count}

-- the remainder of a number, from 0 on
abbrev pub wrapped : ℕ → ℤ → ℕ
wrapped modulus (pos n) = n % modulus
wrapped modulus (negsuc n) = modulus - 1 - n % modulus

-- a remainder as a number of the range that begins half of the modulus below 0
abbrev pub signed_from : ℕ → ℕ → ℤ
signed_from half n = if nat_lt n half then pos n else negsuc (2 * half - 1 - n)

-- the value in the range of this many bits, signed or not
abbrev pub converted_number : Bool → Bits → ℤ → ℤ
converted_number false bits n = pos (wrapped (2 ^ bit_count bits) n)
converted_number true bits n = signed_from (2 ^ (bit_count bits - 1)) (wrapped (2 ^ bit_count bits) n)

signed_from-low : (half n : ℕ) → n < half → signed_from half n ≡ pos n
signed_from-low half n h = grind (arith, nat_tests)

signed_from-high : (half n : ℕ) → half ≤ n → signed_from half n ≡ negsuc (2 * half - 1 - n)
signed_from-high half n h = grind (arith, nat_tests)

module _ (half : ℕ) (some : 0 < half) where
  -- a number is its remainder and this many times the modulus
  times_of : (a : ℤ) → (k : ℤ) × (a ≡ pos (wrapped (2 * half) a) +ℤ k *ℤ pos (2 * half))
  times_of (pos n) = (pos (n / (2 * half)), omega (arith, ints))
  times_of (negsuc n) = (negsuc (n / (2 * half)), omega (arith, ints))

  wrapped-lt : (a : ℤ) → wrapped (2 * half) a < 2 * half
  wrapped-lt (pos n) = omega arith
  wrapped-lt (negsuc n) = omega arith

  unsigned_of : (a : ℤ) → (pos 0 ≤ℤ pos (wrapped (2 * half) a)) × (pos (wrapped (2 * half) a) <ℤ pos (2 * half))
  unsigned_of a = let lt = wrapped-lt a in (omega (arith, ints), omega (arith, ints))

  abbrev IsSigned : ℤ → ℤ → Type 0
  IsSigned a v = (k : ℤ) × (neg_ℤ (pos half) ≤ℤ v) × (v <ℤ pos half) × (a ≡ v +ℤ k *ℤ pos (2 * half))

  signed_of : ((k : ℤ) → (k +ℤ pos 1) *ℤ pos (2 * half) ≡ k *ℤ pos (2 * half) +ℤ pos (2 * half)) → (a : ℤ)
      → IsSigned a (signed_from half (wrapped (2 * half) a))
  signed_of step a =
      let n = wrapped (2 * half) a in
      let lt = wrapped-lt a in
      let k = times_of a in
      let same = k.1 in
      elim (cases_lt n half) [
        | inl low ↦ rw (signed_from-low half n low) (k.0, omega (arith, ints), omega (arith, ints), same)
        | inr high ↦ rw (signed_from-high half n high) (k.0 +ℤ pos 1, omega (arith, ints), omega (arith, ints), let more = step k.0 in omega (arith, ints))
      ]

-- one more time the modulus
abbrev HasNext : ℕ → Type 0
HasNext modulus = (k : ℤ) → (k +ℤ pos 1) *ℤ pos modulus ≡ k *ℤ pos modulus +ℤ pos modulus

next_8 : HasNext (2 ^ 8)
next_8 k = omega (arith, ints)

next_16 : HasNext (2 ^ 16)
next_16 k = omega (arith, ints)

next_32 : HasNext (2 ^ 32)
next_32 k = omega (arith, ints)

next_64 : HasNext (2 ^ 64)
next_64 k = omega (arith, ints)

-- the value is the number in the range that differs by a multiple of 2 ^ bits
pub converted-is : (bits : Bits) (signed : Bool) (a : ℤ) → IsConverted signed (bit_count bits) a (converted_number signed bits a)
converted-is B8 true a = let v = signed_of (2 ^ 7) (omega arith) next_8 a in record { fits = (v.1, v.2); times = v.0; differs = v.3 }
converted-is B8 false a = let k = times_of (2 ^ 7) (omega arith) a in record { fits = unsigned_of (2 ^ 7) (omega arith) a; times = k.0; differs = k.1 }
converted-is B16 true a = let v = signed_of (2 ^ 15) (omega arith) next_16 a in record { fits = (v.1, v.2); times = v.0; differs = v.3 }
converted-is B16 false a = let k = times_of (2 ^ 15) (omega arith) a in record { fits = unsigned_of (2 ^ 15) (omega arith) a; times = k.0; differs = k.1 }
converted-is B32 true a = let v = signed_of (2 ^ 31) (omega arith) next_32 a in record { fits = (v.1, v.2); times = v.0; differs = v.3 }
converted-is B32 false a = let k = times_of (2 ^ 31) (omega arith) a in record { fits = unsigned_of (2 ^ 31) (omega arith) a; times = k.0; differs = k.1 }
converted-is B64 true a = let v = signed_of (2 ^ 63) (omega arith) next_64 a in record { fits = (v.1, v.2); times = v.0; differs = v.3 }
converted-is B64 false a = let k = times_of (2 ^ 63) (omega arith) a in record { fits = unsigned_of (2 ^ 63) (omega arith) a; times = k.0; differs = k.1 }

-- two numbers in one range differ by no multiple of 2 ^ bits
abbrev IsOne : ℕ → Type 0
IsOne bits = (signed : Bool) (a b c k l : ℤ) → FitsIn signed bits b → FitsIn signed bits c → a ≡ b +ℤ k *ℤ pos (2 ^ bits) → a ≡ c +ℤ l *ℤ pos (2 ^ bits) → b ≡ c

one_8 : IsOne 8
one_8 true a b c k l f g e h = omega (arith, ints)
one_8 false a b c k l f g e h = omega (arith, ints)

one_16 : IsOne 16
one_16 true a b c k l f g e h = omega (arith, ints)
one_16 false a b c k l f g e h = omega (arith, ints)

one_32 : IsOne 32
one_32 true a b c k l f g e h = omega (arith, ints)
one_32 false a b c k l f g e h = omega (arith, ints)

one_64 : IsOne 64
one_64 true a b c k l f g e h = omega (arith, ints)
one_64 false a b c k l f g e h = omega (arith, ints)

one_of : (bits : Bits) → IsOne (bit_count bits)
one_of B8 = one_8
one_of B16 = one_16
one_of B32 = one_32
one_of B64 = one_64

pub IsConverted-unique : (bits : Bits) (signed : Bool) (a b c : ℤ) → IsConverted signed (bit_count bits) a b → IsConverted signed (bit_count bits) a c → b ≡ c
IsConverted-unique bits signed a b c h g = one_of bits signed a b c h.times g.times h.fits g.fits h.differs g.differs
