use Rattle.pf_whole.proofs.TracesOnce.{traces_once}
use Rattle.pf_whole.proofs.laws.traces_once.Goals as goal

pub returns : goal.returns
returns c = traces_once
