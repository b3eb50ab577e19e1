use Rattle.pf_posix.proofs.KeptTypes.{profile_fits}
use Rattle.pf_posix.proofs.laws.same_fits.Goals as goal

pub returns : goal.returns
returns c = profile_fits
