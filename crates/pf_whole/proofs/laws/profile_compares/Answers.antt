use Rattle.pf_whole.proofs.ProfileCompares.{profile_compares}
use Rattle.pf_whole.proofs.laws.profile_compares.Goals as goal

pub returns : goal.returns
returns c = profile_compares
