use Rattle.pf_compare.proofs.HeadlineLemmas.{one_same, one_text}
use Rattle.pf_compare.proofs.laws.sameness.Goals as goal

pub returns : goal.returns
returns c = λ model. (
  λ t h. (one_text model t h).canonical,
  λ t h. (one_text model t h).means_the_same,
  λ t u h g. one_same model t u (one_text model t h) (one_text model u g),
)
