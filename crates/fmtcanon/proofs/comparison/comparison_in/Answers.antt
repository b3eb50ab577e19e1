use Rattle.std.proofs.Common.{refl}
use Rattle.std.proofs.lemmas.Result.{err_from_is_err_and}
use Rattle.pf_compare.proofs.VerdictLemmas.{shown_need}
use Rattle.pf_whole.proofs.ProfileVerdicts.{shows_shown}
use Rattle.fmtcanon.proofs.comparison.comparison_in.Goals as goal

pub returns-in_err-verdict : goal.returns-in_err-verdict
returns-in_err-verdict c =
    let p = err_from_is_err_and c.from_residual-in_err-verdict.result c.from_residual-in_err-verdict.ensures.1 in
    rw (p.1, p.2) (shown_need c.args.model c.args.first.now c.args.second.now _ c.in_ok-difference.ensures c.in_err-verdict.ensures)

pub returns-in_err-verdict_answer : goal.returns-in_err-verdict_answer
returns-in_err-verdict_answer c =
    let p = err_from_is_err_and c.from_residual-in_err-verdict_answer.result c.from_residual-in_err-verdict_answer.ensures.1 in
    rw (p.1, p.2) (shown_need c.args.model c.args.first.now c.args.second.now _ c.in_ok-difference.ensures
    (shows_shown c.args.model c.args.first.now c.args.second.now _ c.in_ok-difference.ensures _ c.in_ok-verdict.ensures c.in_err-verdict_answer.ensures))

pub returns : goal.returns
returns c =
    (_, _, (c.in_ok-difference.difference, c.in_ok-difference.ensures, c.in_ok-verdict.ensures, refl), c.in_ok-verdict_answer.ensures)
