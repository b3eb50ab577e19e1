use Rattle.pf_posix.proofs.Unique.{one_refusal}
use Rattle.pf_posix.proofs.laws.refused_once.Goals as goal

pub returns : goal.returns
returns c = one_refusal
