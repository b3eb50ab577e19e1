use Rattle.fmtcanon_c.proofs.CallsOnce.{one_record}
use Rattle.fmtcanon_c.proofs.laws.one_record.Goals as goal

pub returns : goal.returns
returns c = one_record
