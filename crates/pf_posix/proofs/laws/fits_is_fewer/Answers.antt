use Rattle.pf_posix.proofs.DifferenceLemmas.{fits_is_fewer}
use Rattle.pf_posix.proofs.laws.fits_is_fewer.Goals as goal

pub returns : goal.returns
returns c = fits_is_fewer
