use Rattle.pf_posix.proofs.Unique.{one_of_both}
use Rattle.pf_posix.proofs.laws.accepted_or_refused.Goals as goal

pub returns : goal.returns
returns c = one_of_both
