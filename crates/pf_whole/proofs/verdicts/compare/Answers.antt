use Rattle.std.proofs.lemmas.Result.{err_from_is_err_and}
use Rattle.pf_compare.proofs.VerdictLemmas.{shown_need}
use Rattle.pf_whole.proofs.ProfileVerdicts.{profile_is, profile_memory}
use Rattle.pf_whole.proofs.verdicts.compare.Goals as goal

pub returns-in-Memory : goal.returns-in-Memory
returns-in-Memory c = profile_memory c.args.model c.args.first.now c.args.second.now (rw c.in-Memory.is at c.in-Err.ensures)

pub returns-in_ok-of_profile-in-Ok : goal.returns-in_ok-of_profile-in-Ok
returns-in_ok-of_profile-in-Ok c =
    profile_is c.args.model c.args.first.now c.args.second.now c.in-Ok.difference c.in-Ok.ensures _ c.in_ok-of_profile-in-Ok.ensures

pub returns-in_err-of_profile-in-Ok : goal.returns-in_err-of_profile-in-Ok
returns-in_err-of_profile-in-Ok c =
    let t = c.args.first.now in
    let u = c.args.second.now in
    let p = err_from_is_err_and c.from_residual.result c.from_residual.ensures.1 in
    rw (p.1, p.2) (profile_memory c.args.model t u (shown_need c.args.model t u c.in-Ok.difference c.in-Ok.ensures c.in_err-of_profile-in-Ok.ensures))
