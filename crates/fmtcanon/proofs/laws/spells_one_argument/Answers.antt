use Rattle.fmtcanon.proofs.ArgumentWordLemmas.{spells_one}
use Rattle.fmtcanon.proofs.laws.spells_one_argument.Goals as goal

pub returns : goal.returns
returns c = spells_one
