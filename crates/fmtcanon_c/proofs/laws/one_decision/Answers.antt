use Rattle.fmtcanon_c.proofs.CallsOnce.{one_decision}
use Rattle.fmtcanon_c.proofs.laws.one_decision.Goals as goal

pub returns : goal.returns
returns c = λ model t error now after code other. one_decision t error code other now after model
