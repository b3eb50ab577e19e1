use Rattle.std.proofs.Common.{ap, arith, length}
use Rattle.std.proofs.lemmas.List.{length-take}
use Rattle.pf_values.specs.declared.limits.TheConstants.{MAX_TEXT_LEN}
use Rattle.pf_text.proofs.walk.Walk.from.Goals as goal

pub returns-clause-over : goal.returns-clause-over
returns-clause-over c = record {
  walk_is = record {
    few = omega (arith, ap length c.within_limit.ensures, length-take MAX_TEXT_LEN c.args.text.now);
    runs = c.by_search.ensures c.within_limit.result.now;
  };
  text_is = c.within_limit.ensures;
}
