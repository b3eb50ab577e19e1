use Rattle.pf_posix.proofs.ErrnoAside.{errno_aside}
use Rattle.pf_posix.proofs.laws.errno_aside.Goals as goal

pub returns : goal.returns
returns c = errno_aside
