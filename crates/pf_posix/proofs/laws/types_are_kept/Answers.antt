use Rattle.pf_posix.proofs.KeptTypes.{types_are_kept}
use Rattle.pf_posix.proofs.laws.types_are_kept.Goals as goal

pub returns : goal.returns
returns c = types_are_kept
