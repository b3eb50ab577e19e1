use Rattle.std.proofs.Common.{◌++◌, ◌∙◌, Some, Err, sym, subst}
use Rattle.std.proofs.lemmas.Result.{err_from_is_err_and}
use Rattle.pf_canon.specs.CanonicalBytes.{RunEnds, StreamHistory, left_in}
use Rattle.pf_canon.proofs.WholeRunLemmas.{run_begun, run_stopped}
use Rattle.pf_canon.proofs.laws.whole_run.Goals as goal

pub returns-in_err-push-in-Some-Ok-clause-given : goal.returns-in_err-push-in-Some-Ok-clause-given
returns-in_err-push-in-Some-Ok-clause-given g c t is =
    let p = err_from_is_err_and c.from_residual.result c.from_residual.ensures.1 in
    let model = c.args.model in
    let run = c.loop-stream.invariant.run in
    let s = rw c.in-Some-Ok.field-0-is at c.in-Some-Ok.ensures.steps in
    let next = s.next model (Some t) run.0 run.1 (subst (λ start. StreamHistory model g.R.Read.remaining c.loop-stream.stream start run.0 run.1) is run.2) in
    rw p.1 (
      run.1,
      c.in_err-push-in-Some-Ok.ensures.items ∙ run.3,
      (c.in-Some-Ok.byte, run_begun model t c.next.new.self.transducer _ (run.0 ++ next.0) _ next.1.0),
    )

pub returns-in-Some-Err-clause-given : goal.returns-in-Some-Err-clause-given
returns-in-Some-Err-clause-given g c t is =
    let model = c.args.model in
    let run = c.loop-stream.invariant.run in
    let s = rw c.in-Some-Err.field-0-is at c.in-Some-Err.ensures.steps in
    let next = s.next model (Some t) run.0 run.1 (subst (λ start. StreamHistory model g.R.Read.remaining c.loop-stream.stream start run.0 run.1) is run.2) in
    let known = g.R.Read.remaining in (
      run.1,
      run.3,
      subst (λ r. RunEnds model t (left_in known r) run.1 (Err c.in-Some-Err.fault)) (sym c.into_reader-in-Some-Err.ensures)
          (run_stopped model t c.next.new.self.transducer (left_in known c.next.new.self.reader) (run.0 ++ next.0) run.1 c.in-Some-Err.fault next.1),
    )
