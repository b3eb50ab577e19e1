use Rattle.pf_canon.specs.CanonicalBytes.{pending_in}
use Rattle.pf_canon.proofs.ComparisonLemmas.{apart_ends, apart_first, apart_second}
use Rattle.pf_canon.proofs.comparison.drain_both.Goals as goal

pub returns-in-Err-clause-compared : goal.returns-in-Err-clause-compared
returns-in-Err-clause-compared g c model f k h apart = apart_first model f _ k _ (pending_in c.args.first.now) c.in-Err.fault c.args.second.now h.u h.given
    (c.in-Err.ensures.drained model f h.t h.given h.one h.one_filled) h.two

pub returns-in-Err-drain-clause-compared : goal.returns-in-Err-drain-clause-compared
returns-in-Err-drain-clause-compared g c model f k h apart =
    apart_second model f _ k _ (pending_in c.args.first.now) (pending_in c.args.second.now) c.in-Err-drain.fault h.given
    (c.in-Ok.ensures.drained model f h.t h.given h.one h.one_filled) (c.in-Err-drain.ensures.drained model k h.u h.given h.two h.two_filled)

pub returns-in-Ok-drain-clause-compared : goal.returns-in-Ok-drain-clause-compared
returns-in-Ok-drain-clause-compared g c model f k h apart =
    apart_ends model f _ k _ (pending_in c.args.first.now) (pending_in c.args.second.now) h.given apart
    (c.in-Ok.ensures.drained model f h.t h.given h.one h.one_filled) (c.in-Ok-drain.ensures.drained model k h.u h.given h.two h.two_filled)
