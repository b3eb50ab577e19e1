-- The values of each width, as the program makes them.
use Rattle.std.proofs.Common.{◌≡◌, ℕ, ◌-◌, ◌^◌, ◌<◌, Bool, true, false, ◌∙◌, ap, refl, arith, ℤ, pos, negsuc, w8, w32, w64, to_z}
use Rattle.std.specs.Prelude.{nat_abs}
use Rattle.std.specs.Int.{Width, w16, int_rem_euclid}
use Rattle.std.proofs.lemmas.Int.{ints}
use Rattle.std.proofs.lemmas.Bool.Decides.{nat_tests}
use Rattle.pf_values.specs.meaning.Arguments.{IsConverted}
use Rattle.pf_values.specs.meaning.DataModel.{FitsIn, Bits, B8, B16, B32, B64, bit_count}
use Rattle.pf_values.proofs.Values.{wrapped, signed_from, converted-is, IsConverted-unique}

remainder-is : (modulus : ℕ) (a : ℤ) → int_rem_euclid a (pos modulus) ≡ pos (wrapped modulus a)
remainder-is modulus (pos n) = refl
remainder-is modulus (negsuc n) = refl

-- the remainder of a number is its value in the unsigned range
pub remainder-converted : (bits : Bits) (a b r q : ℤ) → b ≡ a → r ≡ int_rem_euclid b (pos (2 ^ bit_count bits)) → q ≡ r
    → IsConverted false (bit_count bits) a (pos (nat_abs q))
remainder-converted bits a b r q d e f =
    let same : q ≡ pos (wrapped (2 ^ bit_count bits) a) = f ∙ e ∙ ap (λ z. int_rem_euclid z (pos (2 ^ bit_count bits))) d
    ∙ remainder-is (2 ^ bit_count bits) a in
    rw same (converted-is bits false a)

abbrev pub width_for : Bits → Width
width_for B8 = w8
width_for B16 = w16
width_for B32 = w32
width_for B64 = w64

to_z-is : (bits : Bits) (v : ℕ) → v < 2 ^ bit_count bits → to_z (width_for bits) v ≡ signed_from (2 ^ (bit_count bits - 1)) v
to_z-is B8 v h = grind (arith, nat_tests)
to_z-is B16 v h = grind (arith, nat_tests)
to_z-is B32 v h = grind (arith, nat_tests)
to_z-is B64 v h = grind (arith, nat_tests)

-- a number that was converted to an unsigned type is, read as a signed number of as many bits, its value in the signed type
pub signed-converted : (bits : Bits) (a b : ℤ) (v : ℕ) (w : ℤ) → b ≡ a → IsConverted false (bit_count bits) b (pos v) → w ≡ to_z (width_for bits) v
    → IsConverted true (bit_count bits) a w
signed-converted bits a b v w d h e =
    let unsigned : IsConverted false (bit_count bits) a (pos v) = rw (← d) h in
    let value = IsConverted-unique bits false a (pos v) _ unsigned (converted-is bits false a) in
    let below = unsigned.fits.1 in
    let small : v < 2 ^ bit_count bits = omega (arith, ints) in
    let same : v ≡ wrapped (2 ^ bit_count bits) a = omega (arith, ints) in
    rw (e ∙ to_z-is bits v small ∙ ap (signed_from (2 ^ (bit_count bits - 1))) same) (converted-is bits true a)

-- a number in the range is its own value; the search uses this for a branch that returns a number
pub converted_within : (signed : Bool) (bits : ℕ) (a b : ℤ) → FitsIn signed bits b → a ≡ b → IsConverted signed bits a b
converted_within signed bits a b h e = record { fits = h; times = pos 0; differs = omega (arith, ints) }
