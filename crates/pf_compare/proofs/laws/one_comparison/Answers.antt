use Rattle.pf_compare.proofs.OnceLemmas.{one_comparison}
use Rattle.pf_compare.proofs.laws.one_comparison.Goals as goal

pub returns : goal.returns
returns c = one_comparison
