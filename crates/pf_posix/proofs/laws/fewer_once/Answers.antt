use Rattle.pf_posix.proofs.DifferenceLemmas.{fewer_once}
use Rattle.pf_posix.proofs.laws.fewer_once.Goals as goal

pub returns : goal.returns
returns c = fewer_once
