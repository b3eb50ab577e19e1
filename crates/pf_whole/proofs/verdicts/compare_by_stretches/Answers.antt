use Rattle.pf_whole.proofs.VerdictLemmas.{same_verdict}
use Rattle.pf_whole.proofs.verdicts.compare_by_stretches.Goals as goal

pub returns-in-Ok-true : goal.returns-in-Ok-true
returns-in-Ok-true c =
    let both = c.in-Ok-true.ensures in
    record {
      is = same_verdict c.args.model c.args.first.now c.args.second.now both.first both.second (both.same.0 c.in-Ok-true.field-0-test);
      typed = tt;
    }
