use Rattle.pf_compare.proofs.HeadlineLemmas.{one_text}
use Rattle.pf_compare.proofs.laws.one_canonical_text.Goals as goal

pub returns : goal.returns
returns c = one_text
