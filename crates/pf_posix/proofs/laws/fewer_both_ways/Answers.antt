use Rattle.pf_posix.proofs.DifferenceLemmas.{fewer_both_ways}
use Rattle.pf_posix.proofs.laws.fewer_both_ways.Goals as goal

pub returns : goal.returns
returns c = fewer_both_ways
