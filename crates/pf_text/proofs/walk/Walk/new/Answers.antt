use Rattle.std.proofs.Common.{ap, arith, length, sym}
use Rattle.std.proofs.lemmas.List.{length-take, take_all}
use Rattle.pf_values.specs.declared.limits.TheConstants.{MAX_TEXT_LEN}
use Rattle.pf_text.proofs.walk.Walk.new.Goals as goal

pub returns-in-Some-clause-over : goal.returns-in-Some-clause-over
returns-in-Some-clause-over c = record {
  walk_is = record { few = omega (arith, c.in-Some.ensures.few); runs = c.in-Some.ensures.runs };
  text_is = sym (take_all MAX_TEXT_LEN c.args.text.now (omega (arith, c.in-Some.ensures.few)));
}

pub returns-in-None-clause-over : goal.returns-in-None-clause-over
returns-in-None-clause-over c = record {
  walk_is = record {
    few = omega (arith, ap length c.within_limit.ensures, length-take MAX_TEXT_LEN c.args.text.now);
    runs = c.by_search.ensures c.within_limit.result.now;
  };
  text_is = c.within_limit.ensures;
}
