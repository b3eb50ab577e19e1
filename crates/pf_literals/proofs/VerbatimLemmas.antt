-- Where a search finds the end of verbatim bytes.
use Rattle.std.proofs.Common.{◌≡◌, ◌≢◌, ℕ, ◌+◌, ◌%◌, ◌^◌, ◌<◌, ◌≤◌, Bool, true, false, cond, ◌||◌, not, List, [], ◌∷◌, length, get_or, map}
use Rattle.std.proofs.Common.{bit_or, Fits, w8, refl, sym, ap, ap₂, ◌∙◌, arith}
use Rattle.std.specs.Prelude.{◌==◌, nat_lt}
use Rattle.std.specs.List.{prefix_len}
use Rattle.std.proofs.lemmas.List.{length-map}
use Rattle.std.proofs.lemmas.Simd.{chunk-fits, length-chunk, mask_l-mod, none_from_empty_mask, run_in_chunk_fails, run_in_chunk_le, run_in_chunk_stops}
use Rattle.std.proofs.lemmas.Simd.{trailing_mask_l}
use Rattle.std.proofs.lemmas.Bool.{agree_below_at}
use lib.Bits.{bit_xor}
use lib.Count.{count_trailing_zeros}
use lib.Lanes.{Each1, chunk, mask_l, top}
use Rattle.pf_literals.specs.Elements.{Bytes}
use Rattle.pf_literals.specs.Verbatim.{IsVerbatimBetween, is_special}

-- the tests that the code makes of a vector
abbrev pub is_found : ℕ → Bool
is_found byte = nat_lt (bit_xor byte 2) 33 || bit_or byte 64 == 127 || byte == 92

found_is : (byte : ℕ) → byte < 256 → is_found byte ≡ is_special byte
found_is byte few = agree_below_at is_found is_special 256 byte refl few

-- what a vector holds as the mask of the special bytes
abbrev pub lane : ℕ → ℕ
lane byte = bit_or (bit_or (cond (nat_lt (bit_xor byte 2) 33) 255 0) (cond (bit_or byte 64 == 127) 255 0)) (cond (byte == 92) 255 0)

either : (a b : Bool) → bit_or (cond a 255 0) (cond b 255 0) ≡ cond (a || b) 255 0
either true true = refl
either true false = refl
either false true = refl
either false false = refl

highest : (a : Bool) → top 7 (cond a 255 0) ≡ a
highest true = refl
highest false = refl

lane_set : (byte : ℕ) → byte < 256 → top 7 (lane byte) ≡ is_special byte
lane_set byte few =
    ap (top 7) (
    ap (λ l. bit_or l (cond (byte == 92) 255 0)) (either (nat_lt (bit_xor byte 2) 33) (bit_or byte 64 == 127))
    ∙ either (nat_lt (bit_xor byte 2) 33 || bit_or byte 64 == 127) (byte == 92)
    ) ∙ highest (is_found byte) ∙ found_is byte few

lanes_set : (bytes : Bytes) → Each1 (Fits w8) bytes → map (top 7) (map lane bytes) ≡ map is_special bytes
lanes_set [] fit = refl
lanes_set (b ∷ bytes) fit = ap₂ (λ x xs. x ∷ xs) (lane_set b (fit.0).fits) (lanes_set bytes fit.1)

-- what the mask says of the bytes that one vector holds
module _ (text : Bytes) (i n : ℕ) (room : i + n ≤ length text) (few : n ≤ 64) (fit : (k : ℕ) → Fits w8 (get_or text k 0)) (z : List ℕ)
    (lanes : z ≡ map lane (chunk i n text)) where
  abbrev mask : ℕ
  mask = mask_l (map (top 7) z) % 2 ^ 64

  mask_is : mask ≡ mask_l (map is_special (chunk i n text))
  mask_is =
      ap (λ l. mask_l (map (top 7) l) % 2 ^ 64) lanes ∙ ap (λ l. mask_l l % 2 ^ 64) (lanes_set (chunk i n text) (chunk-fits w8 i n text fit))
      ∙ mask_l-mod (map is_special (chunk i n text)) 64 (omega (arith, length-map (chunk i n text) is_special, length-chunk i n text room))

  pub none_in : mask ≡ 0 → IsVerbatimBetween text i (i + n)
  none_in e k low high = none_from_empty_mask is_special text i n 0 room (sym mask_is ∙ e) k low high

  module _ (some : mask ≢ 0) where
    counted : count_trailing_zeros 64 mask ≡ prefix_len (λ b. not (is_special b)) (chunk i n text)
    counted =
        ap (count_trailing_zeros 64) mask_is ∙ trailing_mask_l is_special 64 (chunk i n text) (omega (arith, length-chunk i n text room))
        (omega (arith, some, mask_is))

    pub first_few : count_trailing_zeros 64 mask ≤ n
    first_few = run_in_chunk_le is_special text i n _ 0 room counted

    pub first_none : IsVerbatimBetween text i (i + count_trailing_zeros 64 mask)
    first_none k low high = run_in_chunk_fails is_special text i n _ 0 room counted k low high

    pub first_ended : count_trailing_zeros 64 mask < n → is_special (get_or text (i + count_trailing_zeros 64 mask) 0) ≡ true
    first_ended less = run_in_chunk_stops is_special text i n _ 0 room counted less
