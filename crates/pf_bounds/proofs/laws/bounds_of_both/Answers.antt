use Rattle.pf_bounds.proofs.LawLemmas.{bounds_of_both}
use Rattle.pf_bounds.proofs.laws.bounds_of_both.Goals as goal

pub returns : goal.returns
returns c = bounds_of_both
