use Rattle.std.proofs.lemmas.Result.{err_from_is_err_and}
use Rattle.pf_compare.proofs.VerdictLemmas.{shown_need}
use Rattle.pf_compare.proofs.comparisons.compare.Goals as goal

pub returns-in_err-comparison_of : goal.returns-in_err-comparison_of
returns-in_err-comparison_of c =
    let p = err_from_is_err_and c.from_residual-in_err-comparison_of.result c.from_residual-in_err-comparison_of.ensures.1 in
    rw (p.1, p.2) (shown_need c.args.model c.args.first.now c.args.second.now c.in_ok-found.found c.in_ok-found.ensures c.in_err-comparison_of.ensures)
