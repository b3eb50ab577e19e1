use Rattle.std.proofs.Common.{subst}
use Rattle.pf_canon.specs.Comparison.{AreTextsSame}
use Rattle.pf_compare.proofs.VerdictLemmas.{same_verdict}
use Rattle.pf_compare.proofs.comparisons.first_difference.Goals as goal

pub returns-in-Ok-true : goal.returns-in-Ok-true
returns-in-Ok-true c = same_verdict c.args.model c.args.first.now c.args.second.now (subst
    (AreTextsSame c.args.model c.args.first.now c.args.second.now) c.in-Ok-true.field-0-test c.in-Ok-true.ensures)
