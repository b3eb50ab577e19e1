use Rattle.pf_posix.proofs.Unique.{one_list}
use Rattle.pf_posix.proofs.laws.types_once.Goals as goal

pub returns : goal.returns
returns c = one_list
