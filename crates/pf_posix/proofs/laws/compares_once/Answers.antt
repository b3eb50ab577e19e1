use Rattle.pf_posix.proofs.DifferenceLemmas.{compares_once}
use Rattle.pf_posix.proofs.laws.compares_once.Goals as goal

pub returns : goal.returns
returns c = compares_once
