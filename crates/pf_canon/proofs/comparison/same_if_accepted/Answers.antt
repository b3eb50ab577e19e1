use Rattle.pf_canon.proofs.ComparisonLemmas.{told_itself}
use Rattle.pf_canon.proofs.comparison.same_if_accepted.Goals as goal

pub returns-in-Ok : goal.returns-in-Ok
returns-in-Ok g c =
    let (canonical, h) = c.in-Ok.ensures in told_itself g.L.Language.has_front c.args.model c.args.text.now canonical h
