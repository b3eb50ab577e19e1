use Rattle.pf_literals.proofs.FaultLemmas.{fault_goes_on}
use Rattle.pf_literals.proofs.laws.end_goes_on.Goals as goal

pub returns : goal.returns
returns c = fault_goes_on
