use Rattle.pf_whole.proofs.TracesSuffice.{traces_suffice}
use Rattle.pf_whole.proofs.laws.traces_suffice.Goals as goal

pub returns : goal.returns
returns c = traces_suffice
