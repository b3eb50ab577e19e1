use Rattle.std.proofs.Common.{arith, sym}
use Rattle.std.proofs.lemmas.List.{length-take-le, take_all}
use Rattle.pf_values.specs.declared.limits.TheConstants.{MAX_TEXT_LEN}
use Rattle.pf_text.proofs.walk.within_limit.Goals as goal

pub slice_bounds-result-end : goal.slice_bounds-result-end
slice_bounds-result-end c = sym (length-take-le MAX_TEXT_LEN c.args.text.now (omega (arith, c.if-text-gt-MAX_TEXT_LEN.true)))

pub returns : goal.returns
returns c = sym (take_all MAX_TEXT_LEN c.args.text.now (omega (arith, c.if-text-gt-MAX_TEXT_LEN.false)))
