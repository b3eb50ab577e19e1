use Rattle.pf_posix.proofs.KeptTypes.{accepted_there}
use Rattle.pf_posix.proofs.Narrowed.{accepted_here}
use Rattle.pf_posix.proofs.laws.accepts_unnumbered.Goals as goal

pub returns : goal.returns
returns c = λ t. (accepted_there t, accepted_here t)
