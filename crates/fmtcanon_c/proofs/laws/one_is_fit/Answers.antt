use Rattle.fmtcanon_c.proofs.RelationLemmas.{one_is_fit}
use Rattle.fmtcanon_c.proofs.laws.one_is_fit.Goals as goal

pub returns : goal.returns
returns c = one_is_fit
