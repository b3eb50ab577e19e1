use Rattle.pf_literals.proofs.Unique.{source_or_fault}
use Rattle.pf_literals.proofs.laws.read_or_refused.Goals as goal

pub returns : goal.returns
returns c = source_or_fault
