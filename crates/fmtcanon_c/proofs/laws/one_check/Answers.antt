use Rattle.fmtcanon_c.proofs.CallsOnce.{one_check}
use Rattle.fmtcanon_c.proofs.laws.one_check.Goals as goal

pub returns : goal.returns
returns c = λ t error now after code other. one_check t error code other now after
