use Rattle.pf_literals.proofs.HasOffsetLemmas.{has_offset, offset_within}
use Rattle.pf_literals.proofs.laws.offsets_there.Goals as goal

pub returns-clause-there : goal.returns-clause-there
returns-clause-there c = has_offset

pub returns-clause-within : goal.returns-clause-within
returns-clause-within c = offset_within
