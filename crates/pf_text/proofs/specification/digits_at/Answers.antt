use Rattle.std.proofs.Common.{◌≡◌, arith, get_or, true}
use Rattle.std.proofs.lemmas.Bool.Decides.{nat_tests}
use Rattle.pf_text.specs.States.{is_digit}
use Rattle.pf_text.proofs.SpecificationLemmas.{digits_more}
use Rattle.pf_text.proofs.specification.digits_at.Goals as goal

pub loop-at-preserved : goal.loop-at-preserved
loop-at-preserved c =
    let text = c.args.text.now in
    let at = c.loop-at.at in
    let digit : is_digit (get_or text at 0) ≡ true = grind (arith, nat_tests, c.if-not-is_ascii_digit.false, c.is_ascii_digit.ensures.value) in
    record {
      small = omega (arith, c.if-longer-gt-MAX_NUMBER.false);
      digits = rw c.from.ensures (digits_more text c.args.start at c.args.first c.loop-at.number digit c.loop-at-test.true c.loop-at.invariant.digits);
    }
