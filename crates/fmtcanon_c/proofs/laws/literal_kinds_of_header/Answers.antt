use Rattle.fmtcanon_c.proofs.HeaderLemmas.{number_of_header}
use Rattle.fmtcanon_c.proofs.laws.literal_kinds_of_header.Goals as goal

pub returns : goal.returns
returns c = number_of_header
