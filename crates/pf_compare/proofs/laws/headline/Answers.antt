use Rattle.pf_compare.proofs.HeadlineLemmas.{one_meaning, one_text}
use Rattle.pf_compare.proofs.laws.headline.Goals as goal

pub returns : goal.returns
returns c = λ model t u h g. one_meaning model t u (one_text model t h) (one_text model u g)
