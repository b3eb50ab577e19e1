use Rattle.pf_literals.proofs.OffsetLemmas.{one_offset}
use Rattle.pf_literals.proofs.laws.offsets_once.Goals as goal

pub returns : goal.returns
returns c = one_offset
