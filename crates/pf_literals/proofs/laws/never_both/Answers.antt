use Rattle.pf_literals.proofs.Unique.{never_both}
use Rattle.pf_literals.proofs.laws.never_both.Goals as goal

pub returns : goal.returns
returns c = never_both
