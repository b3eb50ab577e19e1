use Rattle.pf_posix.proofs.Unique.{refused_longer}
use Rattle.pf_posix.proofs.laws.refused_for_good.Goals as goal

pub returns : goal.returns
returns c = refused_longer
