use Rattle.std.proofs.Common.{◌≡◌, ◌+◌, ◌*◌, ◌^◌, suc, ap, sym, ◌∙◌, arith}
use Rattle.std.proofs.Math.Nat.{pow-succ'}
use Rattle.std.proofs.lemmas.Bool.{false≢true}
use Rattle.std.proofs.lemmas.Result.{err_from_is_err_and}
use Rattle.pf_values.specs.declared.models.Model.{Model}
use Rattle.pf_values.specs.declared.models.Model.TheVariants.{Lp64}
use Rattle.pf_values.specs.declared.models.TheConstants.Model.{ALL}
use Rattle.pf_whole.proofs.ModelLists.{all_more, first_at}
use Rattle.fmtcanon_c.specs.Relations.{AcceptsRelated, AreRelated, RefusesRelated}
use Rattle.fmtcanon_c.proofs.ModelSums.{added, one_more_weight, passed}
use Rattle.fmtcanon_c.proofs.relations.related_models.Goals as goal

pub loop-model-preserved : goal.loop-model-preserved
loop-model-preserved c =
    let before = c.loop-model.invariant in
    let i = c.loop-model.model-index in
    let first = c.args.first.now in
    let second = c.args.second.now in
    let are_related = λ (model : Model). AreRelated c.args.relation model first second in
    let answer = c.in_ok-relates.ensures in
    let doubled : 2 ^ (i + 1) ≡ 2 * 2 ^ i = (let plus : i + 1 ≡ suc i = omega arith in ap (λ n. 2 ^ n) plus) ∙ pow-succ' 2 i in
    record {
      related = elim c.if-branch.branch [
        | goal.then-branch w ↦ rw w.sum-is (added are_related ALL i _ c.loop-model-test.true c.loop-model.sum before.related c.loop-model.weight
            before.weight (answer.1.0 w.if-branch.true))
        | goal.else-branch w ↦ rw w.sum-is (passed are_related ALL i _ c.loop-model-test.true c.loop-model.sum before.related c.loop-model.weight
            before.weight (λ so. false≢true (sym w.if-branch.false ∙ answer.1.1 so)))
      ];
      weight = omega (arith, before.weight, one_more_weight are_related ALL i Lp64 c.loop-model-test.true);
      below = elim c.if-branch.branch [
        | goal.then-branch w ↦ omega (arith, before.below, w.sum-is)
        | goal.else-branch w ↦ omega (arith, before.below, w.sum-is)
      ];
      small = omega (arith, before.small, doubled);
      accepted = all_more ALL i _ c.loop-model-test.true (AcceptsRelated c.args.relation first second) before.accepted answer.0;
    }

pub returns-in_err-relates : goal.returns-in_err-relates
returns-in_err-relates c =
    let p = err_from_is_err_and c.from_residual.result c.from_residual.ensures.1 in
    let relation = c.args.relation in
    let first = c.args.first.now in
    let second = c.args.second.now in
    rw (p.1, p.2) (first_at ALL c.loop-model.model-index Lp64 c.loop-model-test.true (AcceptsRelated relation first second)
    c.loop-model.invariant.accepted (RefusesRelated relation first second _) c.in_err-relates.ensures)
