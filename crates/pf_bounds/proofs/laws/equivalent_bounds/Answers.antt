use Rattle.pf_bounds.proofs.LawLemmas.{equivalent_bounds}
use Rattle.pf_bounds.proofs.laws.equivalent_bounds.Goals as goal

pub returns : goal.returns
returns c = equivalent_bounds
