-- The verdicts in one data model after another.
use Rattle.std.proofs.Common.{◌≡◌, ℕ, suc, ◌+◌, ◌<◌, List, [], ◌∷◌, ◌++◌, length, get_or, take, refl, sym, ap, ◌∙◌, subst, arith}
use Rattle.std.proofs.Math.Seq.{take-suc}
use Rattle.std.proofs.lemmas.List.{append-nil, append_assoc}
use Rattle.pf_values.specs.declared.models.Model.{Model}
use Rattle.pf_values.specs.meaning.Text.{Text}
use Rattle.fmtcanon.specs.declared.answer.Ending.{Ending}
use Rattle.fmtcanon.specs.declared.answer.Ending.TheVariants as endings
use Rattle.fmtcanon.specs.PairAnswers.{IsAnswerInEach, ending_with}
use Rattle.fmtcanon.specs.Lines.{line}
use Rattle.fmtcanon.specs.Models.{model_name}

with_same : (ending : Ending) → ending ≡ ending_with ending endings.Same
with_same ending = grind arith

with_more : (a b c : Ending) → ending_with (ending_with a b) c ≡ ending_with a (ending_with b c)
with_more a b c = grind arith

-- one more verdict
module _ (IsIn : Model → Text → Ending → Type 0) (model : Model) (lines : Text) (ends : Ending) (answer : IsIn model lines ends) where
  abbrev told : Text
  told = line (model_name model) ++ lines

  pub one_more_model : (models : List Model) (out : Text) (end : Ending) → IsAnswerInEach IsIn models out end
      → IsAnswerInEach IsIn (models ++ model ∷ []) (out ++ told) (ending_with end ends)
  one_more_model [] out end h =
      (lines, [], ends, endings.Same, answer, (refl, refl), ap (λ o. o ++ told) h.0 ∙ sym (append-nil told), ap (λ e. ending_with e ends) h.1 ∙ with_same ends)
  one_more_model (other ∷ models) out end (its, others, ended, rest, is, h, out_is, end_is) = (
    its,
    others ++ told,
    ended,
    ending_with rest ends,
    is,
    one_more_model models others rest h,
    ap (λ o. o ++ told) out_is ∙ append_assoc (line (model_name other) ++ its) others told,
    ap (λ e. ending_with e ends) end_is ∙ with_more ended rest ends,
  )

-- and the loop has pushed it, with the name of its data model
pub verdict_pushed : (IsIn : Model → Text → Ending → Type 0) (models : List Model) (i : ℕ) (d : Model) → i < length models
    → (lines : Text) (ends : Ending) → IsIn (get_or models i d) lines ends
    → (out : Text) (end : Ending) → IsAnswerInEach IsIn (take i models) out end
    → (name : Text) → name ≡ model_name (get_or models i d) → (new : Text) → new ≡ out ++ line name ++ lines
    → (ended : Ending) → ended ≡ ending_with end ends → IsAnswerInEach IsIn (take (i + 1) models) new ended
verdict_pushed IsIn models i d few lines ends answer out end h name name_is new new_is ended ended_is =
    let model = get_or models i d in
    let next : suc i ≡ i + 1 = omega arith in
    let front : take i models ++ model ∷ [] ≡ take (i + 1) models = sym (take-suc models i d few) ∙ ap (λ n. take n models) next in
    let text : new ≡ out ++ (line (model_name model) ++ lines) = new_is ∙ ap (λ n. out ++ line n ++ lines) name_is ∙ append_assoc out
    (line (model_name model)) lines in
    rw text (rw ended_is (subst (λ ms. IsAnswerInEach IsIn ms (out ++ (line (model_name model) ++ lines)) (ending_with end ends)) front
    (one_more_model IsIn model lines ends answer (take i models) out end h)))
