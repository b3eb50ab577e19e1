use Rattle.fmtcanon_c.proofs.CallsOnce.{one_count}
use Rattle.fmtcanon_c.proofs.laws.one_count.Goals as goal

pub returns : goal.returns
returns c = λ model t error now after code other. one_count t error code other now after model
