use Rattle.pf_posix.proofs.ReadOnce.{read_once}
use Rattle.pf_posix.proofs.laws.read_once.Goals as goal

pub returns : goal.returns
returns c = read_once
