use Rattle.std.proofs.Common.{◌++◌, ◌∙◌, ap}
use Rattle.std.proofs.lemmas.Result.{err_from_is_err_and}
use Rattle.pf_values.specs.declared.models.Model.{Model}
use Rattle.pf_values.specs.declared.models.Model.TheVariants.{Lp64}
use Rattle.fmtcanon.specs.Answers.{AcceptsBoth, IsPairFault}
use Rattle.fmtcanon.specs.Lines.{line, output_bytes}
use Rattle.fmtcanon.specs.PairAnswers.{IsPairAnswer}
use Rattle.fmtcanon.specs.declared.outcome.Outcome.TheVariants.{Memory}
use Rattle.fmtcanon.proofs.ComparisonLemmas.{verdict_pushed}
use Rattle.pf_whole.proofs.ModelLists.{all_more, first_at}
use Rattle.fmtcanon.proofs.PairLemmas.{accepts_both, several_fault}
use Rattle.fmtcanon.proofs.pairs.pair_answer_in_each.Goals as goal

pub returns-in_err-answer : goal.returns-in_err-answer
returns-in_err-answer c =
    let question = c.args.question in
    let first = c.args.first.now in
    let second = c.args.second.now in
    let p = err_from_is_err_and c.from_residual.result c.from_residual.ensures.1 in
    rw (p.1, p.2) (first_at c.args.models.now c.loop-model.model-index Lp64 c.loop-model-test.true
    (λ (model : Model). AcceptsBoth question model first second) c.loop-model.invariant.1
    (λ (model : Model). IsPairFault AcceptsBoth question model first second _)
    (several_fault question _ first second _ c.in_err-answer.ensures))

pub returns-in_err-push_verdict : goal.returns-in_err-push_verdict
returns-in_err-push_verdict c =
    let question = c.args.question in
    let first = c.args.first.now in
    let second = c.args.second.now in
    let p = err_from_is_err_and c.from_residual-in_err-push_verdict.result c.from_residual-in_err-push_verdict.ensures.1 in
    rw (p.1, p.2) (first_at c.args.models.now c.loop-model.model-index Lp64 c.loop-model-test.true
    (λ (model : Model). AcceptsBoth question model first second) c.loop-model.invariant.1
    (λ (model : Model). IsPairFault AcceptsBoth question model first second Memory)
    (accepts_both question _ first second _ _ c.in_ok-answer.ensures))

pub loop-model-preserved : goal.loop-model-preserved
loop-model-preserved c =
    let question = c.args.question in
    let first = c.args.first.now in
    let second = c.args.second.now in
    let out = c.loop-model.bytes.items in
    let answer = c.in_ok-answer.answer in
    let is = c.in_ok-answer.ensures in
    let name = c.name_of.result.now in
    let pushed = c.in_ok-push_verdict.ensures ∙ ap (λ lines. out ++ line name ++ lines) c.as_bytes.ensures in (
      verdict_pushed (λ model. IsPairAnswer question model first second) c.args.models.now c.loop-model.model-index _ c.loop-model-test.true
          (output_bytes answer.output) answer.ending is out c.loop-model.ending
          c.loop-model.invariant.0 name c.name_of.ensures _ pushed _ c.ending_with-ending.ensures,
      all_more c.args.models.now c.loop-model.model-index _ c.loop-model-test.true
          (λ (model : Model). AcceptsBoth question model first second) c.loop-model.invariant.1
          (accepts_both question _ first second (output_bytes answer.output) answer.ending is),
    )
