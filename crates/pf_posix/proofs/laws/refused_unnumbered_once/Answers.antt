use Rattle.pf_posix.proofs.UnnumberedVerdicts.{refused_whole_once}
use Rattle.pf_posix.proofs.laws.refused_unnumbered_once.Goals as goal

pub returns : goal.returns
returns c = refused_whole_once
