use Rattle.pf_posix.proofs.UnnumberedVerdicts.{judged}
use Rattle.pf_posix.proofs.laws.judged_unnumbered.Goals as goal

pub returns : goal.returns
returns c = judged
