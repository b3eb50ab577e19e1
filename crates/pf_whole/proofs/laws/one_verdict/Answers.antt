use Rattle.pf_whole.proofs.OneVerdict.{one_verdict}
use Rattle.pf_whole.proofs.laws.one_verdict.Goals as goal

pub returns : goal.returns
returns c = one_verdict
