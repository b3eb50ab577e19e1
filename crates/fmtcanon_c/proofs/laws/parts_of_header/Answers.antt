use Rattle.fmtcanon_c.proofs.HeaderLemmas.{bit_of_header}
use Rattle.fmtcanon_c.proofs.laws.parts_of_header.Goals as goal

pub returns : goal.returns
returns c = bit_of_header
