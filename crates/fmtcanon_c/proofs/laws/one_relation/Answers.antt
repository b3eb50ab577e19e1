use Rattle.fmtcanon_c.proofs.CallsOnce.{one_relation}
use Rattle.fmtcanon_c.proofs.laws.one_relation.Goals as goal

pub returns : goal.returns
returns c = λ relation model first second error now after code other. one_relation relation model first second error code other now after
