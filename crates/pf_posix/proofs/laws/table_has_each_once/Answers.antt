use Rattle.pf_posix.proofs.Agreeing.{each_type}
use Rattle.pf_posix.proofs.laws.table_has_each_once.Goals as goal

pub returns : goal.returns
returns c = each_type
