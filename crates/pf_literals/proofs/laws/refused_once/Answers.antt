use Rattle.pf_literals.proofs.Unique.{one_fault}
use Rattle.pf_literals.proofs.laws.refused_once.Goals as goal

pub returns : goal.returns
returns c = one_fault
