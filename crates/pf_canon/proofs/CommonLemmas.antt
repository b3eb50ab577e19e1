-- Bytes that two texts have in common.
use Rattle.std.proofs.Common.{◌≡◌, ◌≢◌, ℕ, suc, ◌+◌, ◌%◌, ◌^◌, ◌<◌, ◌≤◌, Bool, true, false, cond, not, List, [], ◌∷◌, get_or, length, map, take, drop, ◌⊎◌, inl, inr, refl, sym, ap, ◌∙◌, subst, arith}
use Rattle.std.specs.Prelude.{◌==◌}
use Rattle.std.specs.List.{prefix_len}
use Rattle.std.proofs.lemmas.Bool.{cases_lt, true≢false}
use Rattle.std.proofs.lemmas.Bool.Decides.{nat_tests}
use Rattle.std.proofs.lemmas.List.{length-take-le, length-drop, map-id, take-append-drop, take-append-le}
use Rattle.std.proofs.lemmas.List.Sums.{prefix_len-le-length, prefix_len_stops}
use Rattle.std.proofs.lemmas.Simd.{get_or-chunk, get_or-zip2, leading_from_mask_l, length-chunk, length-zip2, mask_l-mod, tops_compared, trailing_mask_l}
use lib.Count.{count_trailing_zeros}
use lib.Lanes.{chunk, mask_l, top, zip2}
use mir.Syntax.{w8}
use Rattle.pf_values.specs.meaning.Text.{Text}
use Rattle.pf_canon.specs.Comparison.{AreCommon, EndsCommon}

shorter : (r n : ℕ) (t : Text) → r ≤ n → n ≤ length t → take r (take n t) ≡ take r t
shorter r n t less within = sym (take-append-le r (take n t) (drop n t) (omega (arith, less, length-take-le n t within))) ∙ ap (take r) (take-append-drop n t)

-- fewer bytes are equal
pub common_fewer : (t u : Text) (count fewer : ℕ) → AreCommon t u count → fewer ≤ count → AreCommon t u fewer
common_fewer t u count fewer h less = record {
  first = omega (arith, less, h.first);
  second = omega (arith, less, h.second);
  same = sym (shorter fewer count t less h.first) ∙ ap (take fewer) h.same ∙ shorter fewer count u less h.second;
}

ends_at : (t u : Text) (most at n run : ℕ) → at + n ≡ most → run ≤ n → EndsCommon t u most
    → (run < n → get_or t (at + run) 0 ≢ get_or u (at + run) 0) → (run < n) ⊎ (n ≤ run) → EndsCommon t u (at + run)
ends_at t u most at n run whole few end other (inl less) = λ first second. other less
ends_at t u most at n run whole few end other (inr all) =
    let place : most ≡ at + run = omega (arith, whole, few, all) in
    subst (EndsCommon t u) place end

-- where a run of equal bytes ends, before the end of one text or at it
pub ends_within : (t u : Text) (most at n run : ℕ) → at + n ≡ most → run ≤ n → EndsCommon t u most
    → (run < n → get_or t (at + run) 0 ≢ get_or u (at + run) 0) → EndsCommon t u (at + run)
ends_within t u most at n run whole few end other =
    ends_at t u most at n run whole few end other (cases_lt run n)

abbrev unlike : ℕ → ℕ → Bool
unlike a b = not (a == b)

same_step : (a b : ℕ) (t u : Text) (same : Bool) (n : ℕ) → (a == b) ≡ same → take n t ≡ take n u
    → take (cond (not (not same)) (1 + n) 0) (a ∷ t) ≡ take (cond (not (not same)) (1 + n) 0) (b ∷ u)
same_step a b t u true n e h =
    let one : a ≡ b = grind (arith, nat_tests, e) in
    let more : suc n ≡ 1 + n = omega arith in
    subst (λ k. take k (a ∷ t) ≡ take k (b ∷ u)) more (λ i. one i ∷ h i)
same_step a b t u false n e h = refl

same_front : (t u : Text) → take (prefix_len not (zip2 unlike t u)) t ≡ take (prefix_len not (zip2 unlike t u)) u
same_front [] [] = refl
same_front [] (b ∷ u) = refl
same_front (a ∷ t) [] = refl
same_front (a ∷ t) (b ∷ u) = same_step a b t u (a == b) (prefix_len not (zip2 unlike t u)) refl (same_front t u)

apart : (a b : ℕ) (same : Bool) → (a == b) ≡ same → not (not same) ≡ false → a ≢ b
apart a b true e stops same = absurd (true≢false stops)
apart a b false e stops same = grind (arith, nat_tests, e, same)

-- what the mask of two vectors says of their bytes
module _ (t u : Text) (at n : ℕ) (first : at + n ≤ length t) (second : at + n ≤ length u) (lanes : n ≤ 64) where
  abbrev differences : List Bool
  differences = zip2 unlike (chunk at n t) (chunk at n u)

  long : length differences ≡ n
  long = length-zip2 unlike (chunk at n t) (chunk at n u) (length-chunk at n t first ∙ sym (length-chunk at n u second)) ∙ length-chunk at n t first

  abbrev mask : ℕ
  mask = mask_l (map (top 7) (zip2 (λ a b. cond (not (a == b)) 255 0) (chunk at n t) (chunk at n u))) % 2 ^ 64

  mask_is : mask ≡ mask_l (map (λ b. b) differences)
  mask_is = ap (λ l. mask_l l % 2 ^ 64) (tops_compared w8 unlike (chunk at n t) (chunk at n u)) ∙ mask_l-mod differences 64 (omega (arith, lanes, long))
      ∙ ap mask_l (sym (map-id differences))

  same_run : (r : ℕ) → r ≡ prefix_len not differences → (r ≤ n) × (take r (drop at t) ≡ take r (drop at u))
  same_run r counted =
      let few : r ≤ n = omega (arith, counted, long, prefix_len-le-length not differences) in (
        few,
        sym (shorter r n (drop at t) few (omega (arith, first, length-drop at t))) ∙ ap (λ k. take k (chunk at n t)) counted
            ∙ same_front (chunk at n t) (chunk at n u) ∙ ap (λ k. take k (chunk at n u)) (sym counted)
            ∙ shorter r n (drop at u) few (omega (arith, second, length-drop at u)),
      )

  -- where the run ends inside of the vectors, their next bytes differ
  other_run : (r : ℕ) → r ≡ prefix_len not differences → r < n → get_or t (at + r) 0 ≢ get_or u (at + r) 0
  other_run r counted inside =
      let a = get_or t (at + r) 0 in
      let b = get_or u (at + r) 0 in
      let place : get_or differences r false ≡ unlike a b =
      get_or-zip2 unlike (chunk at n t) (chunk at n u) r 0 0 false (omega (arith, inside, length-chunk at n t first))
      (omega (arith, inside, length-chunk at n u second))
      ∙ ap (λ x. unlike x (get_or (chunk at n u) r 0)) (get_or-chunk at n t r 0 inside) ∙ ap (unlike a) (get_or-chunk at n u r 0 inside) in
      let stops : not (get_or differences r false) ≡ false = subst (λ k. not (get_or differences k false) ≡ false) (sym counted)
      (prefix_len_stops not differences false (omega (arith, counted, long, inside))) in
      apart a b (a == b) refl (ap not (sym place) ∙ stops)

  pub all_same : mask ≡ 0 → take n (drop at t) ≡ take n (drop at u)
  all_same none = (same_run n (sym (leading_from_mask_l (λ b. b) differences (sym mask_is ∙ none) ∙ long))).1

  counted_run : mask ≢ 0 → count_trailing_zeros 64 mask ≡ prefix_len not differences
  counted_run some = ap (count_trailing_zeros 64) mask_is
      ∙ trailing_mask_l (λ b. b) 64 differences (omega (arith, lanes, long)) (omega (arith, some, mask_is))

  pub first_same : mask ≢ 0 → (count_trailing_zeros 64 mask ≤ n)
      × (take (count_trailing_zeros 64 mask) (drop at t) ≡ take (count_trailing_zeros 64 mask) (drop at u))
  first_same some = same_run (count_trailing_zeros 64 mask) (counted_run some)

  pub first_other : mask ≢ 0 → count_trailing_zeros 64 mask < n
      → get_or t (at + count_trailing_zeros 64 mask) 0 ≢ get_or u (at + count_trailing_zeros 64 mask) 0
  first_other some = other_run (count_trailing_zeros 64 mask) (counted_run some)
