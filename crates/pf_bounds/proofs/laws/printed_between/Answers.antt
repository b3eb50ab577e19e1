use Rattle.pf_bounds.proofs.LawLemmas.{printed_between}
use Rattle.pf_bounds.proofs.laws.printed_between.Goals as goal

pub returns : goal.returns
returns c = printed_between
