use Rattle.pf_literals.proofs.Unique.{one_source}
use Rattle.pf_literals.proofs.laws.bytes_once.Goals as goal

pub returns : goal.returns
returns c = one_source
