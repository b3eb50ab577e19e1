use Rattle.pf_bounds.proofs.BoundsLemmas.{bounds_once}
use Rattle.pf_bounds.proofs.laws.bounds_once.Goals as goal

pub returns : goal.returns
returns c = bounds_once
