-- Data models one after the other: those that accept all so far, and the first that doesn't.
use Rattle.std.proofs.Common.{◌≡◌, ℕ, suc, ◌+◌, ◌<◌, List, [], ◌∷◌, ◌++◌, length, get_or, take, drop, sym, ap, ◌∙◌, subst, arith}
use Rattle.std.specs.List.{AllByRecursion}
use Rattle.std.proofs.Math.Seq.{take-suc}
use Rattle.std.proofs.lemmas.List.{drop_more, take-append-drop}
use Rattle.pf_values.specs.declared.models.Model.{Model}
use Rattle.pf_posix.proofs.Agreeing.{all_push}
use Rattle.pf_whole.specs.Languages.{IsFirstIn}

module _ (models : List Model) (i : ℕ) (d : Model) (few : i < length models) where
  pub next_model : take i models ++ get_or models i d ∷ [] ≡ take (i + 1) models
  next_model = let plus : suc i ≡ i + 1 = omega arith in sym (take-suc models i d few) ∙ ap (λ n. take n models) plus

  module _ (Accepts : Model → Type 0) (h : AllByRecursion Accepts (take i models)) where
    pub all_more : Accepts (get_or models i d) → AllByRecursion Accepts (take (i + 1) models)
    all_more a = subst (AllByRecursion Accepts) next_model (all_push Accepts (take i models) (get_or models i d) h a)

    pub first_at : (Is : Model → Type 0) → Is (get_or models i d) → IsFirstIn models Accepts Is
    first_at Is is =
        record {
          before = take i models;
          model = get_or models i d;
          after = drop (i + 1) models;
          split = sym (take-append-drop i models) ∙ ap (λ r. take i models ++ r) (drop_more models i d few);
          accepted = h;
          is = is;
        }
