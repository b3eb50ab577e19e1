use Rattle.std.proofs.lemmas.Result.{err_from_is_err_and}
use Rattle.pf_whole.proofs.VerdictLemmas.{shown_needs}
use Rattle.fmtcanon.proofs.comparison.alike_in.Goals as goal

pub returns-in_err-verdict_answer : goal.returns-in_err-verdict_answer
returns-in_err-verdict_answer c =
    let p = err_from_is_err_and c.from_residual-in_err-verdict_answer.result c.from_residual-in_err-verdict_answer.ensures.1 in
    rw (p.1, p.2) (shown_needs c.args.model c.args.first.now c.args.second.now _ c.in_ok-verdict.ensures c.in_err-verdict_answer.ensures)
