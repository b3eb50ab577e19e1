use Rattle.pf_text.specs.Walks.{AreRead, Either}
use Rattle.pf_canon.proofs.EarlyLemmas.{literal_made}
use Rattle.pf_canon.proofs.early_difference.is_rest.Goals as goal

pub returns-in-len1 : goal.returns-in-len1
returns-in-len1 g c = λ is. literal_made (Either AreRead g.L.Passed.passes) c.args.text.now c.in-len1.len_at_least c.in-len1.len_below (c.is_literal.ensures is)
