use Rattle.pf_whole.proofs.NeedlessLemmas.{needless_once}
use Rattle.pf_whole.proofs.laws.needless_once.Goals as goal

pub returns : goal.returns
returns c = needless_once
