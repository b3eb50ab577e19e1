-- Where a search finds the first byte that is `%` or 0.
use Rattle.std.proofs.Common.{◌≡◌, ◌≢◌, ℕ, ◌+◌, ◌-◌, ◌%◌, ◌^◌, ◌<◌, ◌≤◌, Bool, true, false, cond, ◌||◌, not, List, [], ◌∷◌, length, get_or, map, take}
use Rattle.std.proofs.Common.{drop, bit_or, refl, sym, ap, ◌∙◌, arith, inl, inr}
use Rattle.std.specs.Prelude.{◌==◌}
use Rattle.std.specs.List.{prefix_len}
use Rattle.std.proofs.lemmas.Bool.{cases_lt}
use Rattle.std.proofs.lemmas.List.{get_or-drop, length-drop, length-map, length-take, take_rest}
use Rattle.std.proofs.lemmas.Simd.{length-chunk, mask_l-mod, none_from_empty_mask, run_in_chunk_fails, run_in_chunk_le, run_in_chunk_stops, trailing_mask_l}
use lib.Count.{count_trailing_zeros}
use lib.Lanes.{chunk, mask_l, top}
use Rattle.memchr.specs.Find.{NoneBefore, Nowhere, Passes, is_byte2}
use Rattle.pf_values.specs.meaning.Text.{Text}

-- what a search after the first bytes finds, where none of those passes the test
module _ (test : ℕ → Bool) (text : Text) (seen : ℕ) (within : seen ≤ length text) (none : Nowhere (Passes test text) 0 seen) where
  abbrev behind : Text
  behind = take (length text - seen) (drop seen text)

  behind_is : (k : ℕ) → get_or behind k 0 ≡ get_or text (seen + k) 0
  behind_is k = ap (λ rest. get_or rest k 0) (take_rest text seen) ∙ get_or-drop seen text k 0

  none_so_far : (end : ℕ) → ((k : ℕ) → seen + k < end → Passes test behind k → ⊥) → Nowhere (Passes test text) 0 end
  none_so_far end later k low high = elim (cases_lt k seen) [
    | inl less ↦ none k low less
    | inr more ↦
        let same : seen + (k - seen) ≡ k = omega arith in
        λ e. later (k - seen) (omega arith) (ap test (behind_is (k - seen) ∙ ap (λ j. get_or text j 0) same) ∙ e)
  ]

  long : length behind ≡ length text - seen
  long = omega (arith, length-take (length text - seen) (drop seen text), length-drop seen text)

  pub none_behind : Nowhere (Passes test behind) 0 (length behind) → Nowhere (Passes test text) 0 (length text)
  none_behind later = none_so_far (length text) (λ k high. later k (omega arith) (omega (arith, long)))

  pub found_behind : (k : ℕ) → NoneBefore (Passes test behind) 0 (length behind) k × Passes test behind k
      → NoneBefore (Passes test text) 0 (length text) (seen + k) × Passes test text (seen + k)
  found_behind k h = (
    record { low = omega arith; high = omega (arith, long, h.0.high); before = none_so_far (seen + k) (λ j high. h.0.before j (omega arith) (omega arith)) },
    ap test (sym (behind_is k)) ∙ h.1,
  )

-- what a vector holds that marks the bytes which are `%` or 0
abbrev pub lane : ℕ → ℕ
lane byte = bit_or (cond (byte == 37) 255 0) (cond (byte == 0) 255 0)

lane_set : (a b : Bool) → top 7 (bit_or (cond a 255 0) (cond b 255 0)) ≡ (a || b)
lane_set true true = refl
lane_set true false = refl
lane_set false true = refl
lane_set false false = refl

lanes_set : (bytes : Text) → map (top 7) (map lane bytes) ≡ map (is_byte2 37 0) bytes
lanes_set [] = refl
lanes_set (b ∷ bytes) = ap (λ x. x ∷ map (top 7) (map lane bytes)) (lane_set (b == 37) (b == 0)) ∙ ap (λ xs. is_byte2 37 0 b ∷ xs) (lanes_set bytes)

-- the mask of the bytes that one vector holds
pub mask_is : (text : Text) (i n : ℕ) → i + n ≤ length text → n ≤ 64 → (z : List ℕ) → z ≡ map lane (chunk i n text)
    → mask_l (map (top 7) z) % 2 ^ 64 ≡ mask_l (map (is_byte2 37 0) (chunk i n text))
mask_is text i n room few z lanes =
    ap (λ l. mask_l (map (top 7) l) % 2 ^ 64) lanes ∙ ap (λ l. mask_l l % 2 ^ 64) (lanes_set (chunk i n text))
    ∙ mask_l-mod (map (is_byte2 37 0) (chunk i n text)) 64 (omega (arith, few, length-map (chunk i n text) (is_byte2 37 0), length-chunk i n text room))

-- what it says of these bytes
module _ (text : Text) (i n : ℕ) (room : i + n ≤ length text) (few : n ≤ 64) (mask : ℕ) (is : mask ≡ mask_l (map (is_byte2 37 0) (chunk i n text))) where
  fails : (b : Bool) → b ≡ false → b ≡ true → ⊥
  fails b e f = cc

  pub none_in : mask ≡ 0 → Nowhere (Passes (is_byte2 37 0) text) i (i + n)
  none_in e k low high = fails (is_byte2 37 0 (get_or text k 0)) (none_from_empty_mask (is_byte2 37 0) text i n 0 room (sym is ∙ e) k low high)

  module _ (some : mask ≢ 0) where
    counted : count_trailing_zeros 64 mask ≡ prefix_len (λ b. not (is_byte2 37 0 b)) (chunk i n text)
    counted =
        ap (count_trailing_zeros 64) is ∙ trailing_mask_l (is_byte2 37 0) 64 (chunk i n text) (omega (arith, few, length-chunk i n text room))
        (omega (arith, some, is))

    pub first_few : count_trailing_zeros 64 mask ≤ n
    first_few = run_in_chunk_le (is_byte2 37 0) text i n _ 0 room counted

    pub first_none : Nowhere (Passes (is_byte2 37 0) text) i (i + count_trailing_zeros 64 mask)
    first_none k low high = fails (is_byte2 37 0 (get_or text k 0)) (run_in_chunk_fails (is_byte2 37 0) text i n _ 0 room counted k low high)

    pub first_ended : count_trailing_zeros 64 mask < n → Passes (is_byte2 37 0) text (i + count_trailing_zeros 64 mask)
    first_ended less = run_in_chunk_stops (is_byte2 37 0) text i n _ 0 room counted less
