use Rattle.pf_posix.proofs.Unique.{never_both}
use Rattle.pf_posix.proofs.laws.never_both.Goals as goal

pub returns : goal.returns
returns c = never_both
