use Rattle.std.proofs.Common.{refl}
use Rattle.fmtcanon_c.proofs.laws.errors_of_header.Goals as goal

pub returns : goal.returns
returns c = record { memory = refl; model = refl; place = refl; count = refl; type = refl }
