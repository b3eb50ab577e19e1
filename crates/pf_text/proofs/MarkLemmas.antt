-- The bits of a number that marks bytes of a text.
use Rattle.std.proofs.Common.{◌≡◌, ◌≢◌, ℕ, zero, suc, ◌+◌, ◌-◌, ◌*◌, ◌/◌, ◌%◌, ◌^◌, ◌<◌, ◌≤◌, max, Bool, true, false, cond, List, ◌++◌}
use Rattle.std.proofs.Common.{length, get_or, map, replicate, bit_or, refl, sym, ap, ap₂, subst, ◌∙◌, arith, inl, inr, w64}
use Rattle.std.specs.Prelude.{◌⊎◌}
use Rattle.std.specs.Int.{bit_at, trailing_zeros}
use Rattle.std.specs.Simd.Lanes.{chunk, mask_l}
use Rattle.std.proofs.Math.Nat.{div-div-eq-div-mul, div-le_self, pow-succ'}
use Rattle.std.proofs.Math.Pow.{pow_mono}
use Rattle.std.proofs.lemmas.Bool.{cases_lt}
use Rattle.std.proofs.Math.ListN.{get_or-eq_default}
use Rattle.std.proofs.lemmas.List.{get_or_append_left, get_or-append_right, get_or-map, get_or-replicate, length-append, length-map, length-replicate}
use Rattle.std.proofs.lemmas.Nat.{or_lt, pow-add}
use Rattle.std.proofs.lemmas.Nat.Bits.{bit_at_above, bit_at-lt, bit_at-trailing_zeros, bit_at-zero, bit_at_or}
use Rattle.std.proofs.lemmas.Simd.{bit_mask_l, get_or-chunk, length-chunk, mask_l-lt, mask_l-mod}
use Rattle.memchr.specs.Find.{is_byte2}
use Rattle.pf_values.specs.meaning.Text.{Text}
use Rattle.pf_text.specs.Marks.{HasNoBit, IsMarked}

doubled : (m p q r : ℕ) → q ≡ 2 * p → m * p ≡ r → m * q ≡ 0 + 2 * r
doubled m p q r e h = grind (arith, e, h)

-- a mask that is shifted has its lanes further up
shifted : (at : ℕ) (lanes : List Bool) → mask_l lanes * 2 ^ at ≡ mask_l (replicate at false ++ lanes)
shifted zero lanes = omega arith
shifted (suc at) lanes = doubled (mask_l lanes) (2 ^ at) (2 ^ suc at) (mask_l (replicate at false ++ lanes)) (pow-succ' 2 at) (shifted at lanes)

shifted_few : (at : ℕ) (lanes : List Bool) → at + length lanes ≤ 64 → mask_l lanes * 2 ^ at % 2 ^ 64 ≡ mask_l (replicate at false ++ lanes)
shifted_few at lanes few =
    ap (λ m. m % 2 ^ 64) (shifted at lanes)
    ∙ mask_l-mod (replicate at false ++ lanes) 64 (omega (arith, few, length-append (replicate at false) lanes, length-replicate at false))

set_bit : (b : Bool) → b ≡ true → ◌≡◌ {A = ℕ} (cond b 1 0) 1
set_bit true e = refl
set_bit false e = cc

bit_set : (b : Bool) → ◌≡◌ {A = ℕ} (cond b 1 0) 1 → b ≡ true
bit_set true e = refl
bit_set false e = absurd (omega (arith, e))

-- the bits of what one vector holds
module _ (text : Text) (at n : ℕ) (room : at + n ≤ length text) (few : at + n ≤ 64) (mask : ℕ)
    (is : mask ≡ mask_l (map (is_byte2 37 0) (chunk at n text))) where
  abbrev lanes : List Bool
  lanes = map (is_byte2 37 0) (chunk at n text)

  len : length lanes ≡ n
  len = length-map (chunk at n text) (is_byte2 37 0) ∙ length-chunk at n text room

  all : length (replicate at false ++ lanes) ≡ at + n
  all = length-append (replicate at false) lanes ∙ ap₂ (λ (x y : ℕ). x + y) (length-replicate at false) len

  same_mask : mask * 2 ^ at % 2 ^ 64 ≡ mask_l (replicate at false ++ lanes)
  same_mask = ap (λ m. m * 2 ^ at % 2 ^ 64) is ∙ shifted_few at lanes (omega (arith, few, len))

  bit_is : (k : ℕ) → bit_at (mask * 2 ^ at % 2 ^ 64) k ≡ cond (get_or (replicate at false ++ lanes) k false) 1 0
  bit_is k = ap (λ m. bit_at m k) same_mask ∙ bit_mask_l (replicate at false ++ lanes) k

  lane_is : (k : ℕ) → at ≤ k → k < at + n → get_or (replicate at false ++ lanes) k false ≡ is_byte2 37 0 (get_or text k 0)
  lane_is k low high =
      let place : at + (k - at) ≡ k = omega (arith, low) in
      let less : k - at < n = omega (arith, low, high) in
      get_or-append_right (replicate at false) lanes at k false (length-replicate at false) low
      ∙ get_or-map (is_byte2 37 0) (chunk at n text) (k - at) 0 false (omega (arith, less, length-chunk at n text room))
      ∙ ap (is_byte2 37 0) (get_or-chunk at n text (k - at) 0 less ∙ ap (λ j. get_or text j 0) place)

  below : (k : ℕ) → k < at → get_or (replicate at false ++ lanes) k false ≡ false
  below k less = get_or_append_left (replicate at false) lanes false k (omega (arith, less, length-replicate at false)) ∙ get_or-replicate at k false false less

  pub vector_marked : IsMarked (mask * 2 ^ at % 2 ^ 64) text at (at + n)
  vector_marked = record {
    ends = λ k low high ends. bit_is k ∙ set_bit _ (lane_is k low high ∙ ends);
    only = λ k one.
        let set = bit_set _ (sym (bit_is k) ∙ one) in
        elim (cases_lt k at) [
          | inl less ↦ absurd (let no : false ≡ true = sym (below k less) ∙ set in cc)
          | inr low ↦ elim (cases_lt k (at + n)) [
            | inl high ↦ sym (lane_is k low high) ∙ set
            | inr over ↦ absurd (let no : false ≡ true = sym (get_or-eq_default (replicate at false ++ lanes) false (omega (arith, over, all))) ∙ set in cc)
          ]
        ];
    few = subst (λ k. mask * 2 ^ at % 2 ^ 64 < 2 ^ k) all (subst (λ m. m < 2 ^ length (replicate at false ++ lanes)) (sym same_mask)
        (mask_l-lt (replicate at false ++ lanes)));
  }

wider : (a i k : ℕ) → a < 2 ^ i → i ≤ k → a < 2 ^ k
wider a i k less up = let most : 2 ^ i ≤ 2 ^ k = pow_mono up in omega (arith, less, most)

max_left : (a b : ℕ) → a ≡ 1 → b < 2 → max a b ≡ 1
max_left a b e less = omega (arith, e, less)

max_right : (a b : ℕ) → a < 2 → b ≡ 1 → max a b ≡ 1
max_right a b less e = omega (arith, e, less)

one_of : (a b : ℕ) → max a b ≡ 1 → (a ≡ 1) ⊎ (b ≡ 1)
one_of a b e = elim (cases_lt a 1) [ inl none ↦ inr (omega (arith, e, none)) | inr some ↦ inl (omega (arith, e, some)) ]

-- the bytes that either number marks
pub both_marked : (a b : ℕ) (text : Text) (i j k l : ℕ) → IsMarked a text i j → IsMarked b text k l → k ≤ j → j ≤ l → IsMarked (bit_or a b) text i l
both_marked a b text i j k l h g meet up = record {
  ends = λ place low high ends.
      elim (cases_lt place j) [
        | inl less ↦ bit_at_or a b place ∙ max_left (bit_at a place) (bit_at b place) (h.ends place low less ends) (bit_at-lt b place)
        | inr more ↦ bit_at_or a b place ∙ max_right (bit_at a place) (bit_at b place) (bit_at-lt a place) (g.ends place (omega (arith, meet, more)) high ends)
      ];
  only = λ place one. elim (one_of (bit_at a place) (bit_at b place) (sym (bit_at_or a b place) ∙ one)) [
    | inl first ↦ h.only place first
    | inr second ↦ g.only place second
  ];
  few = or_lt l a b (wider a j l h.few up) g.few;
}

bits_left : (marks at k : ℕ) → bit_at (marks / 2 ^ at) k ≡ bit_at marks (at + k)
bits_left marks at k = ap (λ m. m % 2) (div-div-eq-div-mul marks (2 ^ at) (2 ^ k) ∙ ap (λ p. marks / p) (sym (pow-add 2 at k)))

from_left : (marks at k : ℕ) → at ≤ k → bit_at (marks / 2 ^ at) (k - at) ≡ 0 → bit_at marks k ≡ 0
from_left marks at k low e =
    let place : at + (k - at) ≡ k = omega (arith, low) in
    sym (ap (bit_at marks) place) ∙ sym (bits_left marks at (k - at)) ∙ e

-- no mark is left
pub none_marked : (marks at stop : ℕ) → marks / 2 ^ at ≡ 0 → HasNoBit marks at stop
none_marked marks at stop e k low high = from_left marks at k low (ap (λ m. bit_at m (k - at)) e ∙ bit_at-zero (k - at))

-- where a bit is set, the text isn't at its end
pub marked_within : (marks at stop : ℕ) → marks < 2 ^ stop → bit_at marks at ≡ 1 → at < stop
marked_within marks at stop few set = elim (cases_lt at stop) [
  | inl less ↦ less
  | inr more ↦ (let none = bit_at_above marks stop at few more in absurd (omega (arith, set, none)))
]

-- a bit is set there
pub bit_found : (marks at : ℕ) → marks < 2 ^ 64 → marks / 2 ^ at ≢ 0 → bit_at marks (at + trailing_zeros w64 (marks / 2 ^ at)) ≡ 1
bit_found marks at fits some =
    let left = marks / 2 ^ at in
    let found = bit_at-trailing_zeros w64 left (omega (arith, some)) (omega (arith, fits, div-le_self marks (2 ^ at))) in
    sym (bits_left marks at (trailing_zeros w64 left)) ∙ found.1

-- or the next one is found
pub next_found : (marks at : ℕ) → marks < 2 ^ 64 → marks / 2 ^ at ≢ 0 → HasNoBit marks at (at + trailing_zeros w64 (marks / 2 ^ at))
next_found marks at fits some k low high =
    let left = marks / 2 ^ at in
    let found = bit_at-trailing_zeros w64 left (omega (arith, some)) (omega (arith, fits, div-le_self marks (2 ^ at))) in
    from_left marks at k low (found.2 (k - at) (omega (arith, low, high)))
