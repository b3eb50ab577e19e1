-- The data models in which something is so, as a sum.
use Rattle.std.proofs.Common.{◌≡◌, ℕ, ◌+◌, ◌*◌, ◌<◌, List, [], ◌∷◌, ◌++◌, length, get_or, take, refl, sym, ap, ◌∙◌, subst, arith, inl}
use Rattle.std.proofs.Common.{inr}
use Rattle.std.specs.Prelude.{◌⊎◌}
use Rattle.pf_values.specs.declared.models.Model.{Model}
use Rattle.pf_whole.proofs.ModelLists.{next_model}
use Rattle.fmtcanon_c.specs.Calls.{AreModels}

-- what the next data model counts
abbrev pub weight_after : ℕ → List Model → ℕ
weight_after weight [] = weight
weight_after weight (model ∷ models) = weight_after (2 * weight) models

weight_of_more : (weight : ℕ) (models : List Model) (model : Model) → weight_after weight (models ++ model ∷ []) ≡ 2 * weight_after weight models
weight_of_more weight [] model = refl
weight_of_more weight (other ∷ models) model = weight_of_more (2 * weight) models model

-- what a data model adds, where it counts so much
abbrev pub Adds : Type 0 → ℕ → ℕ → Type 0
Adds Is weight more = (Is × (more ≡ weight)) ⊎ ((¬ Is) × (more ≡ 0))

module _ (Is : Model → Type 0) where
  one_of_more : (model : Model) (more weight : ℕ) (models : List Model) (sum : ℕ) → AreModels Is weight models sum
      → Adds (Is model) (weight_after weight models) more
      → AreModels Is weight (models ++ model ∷ []) (sum + more)
  one_of_more model more weight [] sum h (inl added) = (0, refl, inl (added.0, omega (arith, h, added.1)))
  one_of_more model more weight [] sum h (inr added) = (0, refl, inr (added.0, omega (arith, h, added.1)))
  one_of_more model more weight (other ∷ models) sum (others, h, inl counted) added =
      (others + more, one_of_more model more (2 * weight) models others h added, inl (counted.0, omega (arith, counted.1)))
  one_of_more model more weight (other ∷ models) sum (others, h, inr counted) added =
      (others + more, one_of_more model more (2 * weight) models others h added, inr (counted.0, omega (arith, counted.1)))

  -- one more data model of a list
  module _ (models : List Model) (i : ℕ) (d : Model) (few : i < length models) where
    one_more_model : (sum more : ℕ) → AreModels Is 1 (take i models) sum → Adds (Is (get_or models i d)) (weight_after 1 (take i models)) more
        → AreModels Is 1 (take (i + 1) models) (sum + more)
    one_more_model sum more h added = subst (λ ms. AreModels Is 1 ms (sum + more)) (next_model models i d few)
        (one_of_more (get_or models i d) more 1 (take i models) sum h added)

    pub one_more_weight : weight_after 1 (take (i + 1) models) ≡ 2 * weight_after 1 (take i models)
    one_more_weight = ap (weight_after 1) (sym (next_model models i d few)) ∙ weight_of_more 1 (take i models) (get_or models i d)

    module _ (sum : ℕ) (h : AreModels Is 1 (take i models) sum) (weight : ℕ) (weight_is : weight ≡ weight_after 1 (take i models)) where
      -- it is so in it
      pub added : Is (get_or models i d) → AreModels Is 1 (take (i + 1) models) (sum + weight)
      added is = one_more_model sum weight h (inl (is, weight_is))

      -- it isn't
      pub passed : ¬ Is (get_or models i d) → AreModels Is 1 (take (i + 1) models) sum
      passed is = let none : sum + 0 ≡ sum = omega arith in subst (AreModels Is 1 (take (i + 1) models)) none (one_more_model sum 0 h (inr (is, refl)))
