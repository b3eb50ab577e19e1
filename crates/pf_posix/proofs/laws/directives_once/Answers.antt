use Rattle.pf_posix.proofs.ListLemmas.{directives_once}
use Rattle.pf_posix.proofs.laws.directives_once.Goals as goal

pub returns : goal.returns
returns c = directives_once
