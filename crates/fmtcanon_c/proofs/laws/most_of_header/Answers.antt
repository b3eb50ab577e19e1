use Rattle.std.proofs.Common.{refl}
use Rattle.fmtcanon_c.proofs.laws.most_of_header.Goals as goal

pub returns : goal.returns
returns c = refl
