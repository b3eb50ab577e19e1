use Rattle.pf_posix.proofs.KeptTypes.{profile_types}
use Rattle.pf_posix.proofs.laws.profile_types.Goals as goal

pub returns : goal.returns
returns c = profile_types
