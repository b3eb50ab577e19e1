use Rattle.pf_compare.proofs.OnceLemmas.{one_difference}
use Rattle.pf_compare.proofs.laws.one_difference.Goals as goal

pub returns : goal.returns
returns c = one_difference
