use Rattle.std.proofs.Common.{◌-◌, ◌≤◌, arith, length, get_or, pos, refl}
use Rattle.std.proofs.lemmas.Bool.Decides.{nat_tests}
use Rattle.std.proofs.lemmas.List.Elements.{All-more}
use Rattle.fmtcanon.specs.declared.arguments.TheConstants.{MAX_DIGITS}
use Rattle.fmtcanon.proofs.MagnitudeLemmas.{IsDigitByte, all_read, product_fits, read_only, sum_fits, sum_is}
use Rattle.fmtcanon.proofs.arguments.magnitude_of.Goals as goal

pub returns-then-not-is_ascii_digit-clause-none : goal.returns-then-not-is_ascii_digit-clause-none
returns-then-not-is_ascii_digit-clause-none c = λ n h.
    let digit = (read_only c.args.digits.now n h).bytes_are c.loop-digit.digit-index 0 c.loop-digit-test.true in
    let none = c.if-not-is_ascii_digit.ensures.cases in
    grind arith

pub overflow_mul-magnitude : goal.overflow_mul-magnitude
overflow_mul-magnitude c =
    let few : length c.args.digits.now ≤ MAX_DIGITS = omega arith in
    product_fits c.args.digits.now c.loop-digit.digit-index c.loop-digit-test.true few c.loop-digit.invariant.0
    _ (pos (get_or c.args.digits.now c.loop-digit.digit-index 0 - 48)) c.loop-digit.invariant.1 refl c.if-not-is_ascii_digit.ensures.cases

pub overflow_add-magnitude : goal.overflow_add-magnitude
overflow_add-magnitude c =
    let few : length c.args.digits.now ≤ MAX_DIGITS = omega arith in
    sum_fits c.args.digits.now c.loop-digit.digit-index c.loop-digit-test.true few c.loop-digit.invariant.0
    _ _ c.loop-digit.invariant.1 c.from.ensures c.if-not-is_ascii_digit.ensures.cases

pub loop-digit-preserved : goal.loop-digit-preserved
loop-digit-preserved c =
    let few : length c.args.digits.now ≤ MAX_DIGITS = omega arith in (
      All-more IsDigitByte c.args.digits.now c.loop-digit.digit-index 0 c.loop-digit-test.true c.loop-digit.invariant.0 c.if-not-is_ascii_digit.ensures.cases,
      sum_is c.args.digits.now c.loop-digit.digit-index c.loop-digit-test.true few c.loop-digit.invariant.0
          _ _ c.loop-digit.invariant.1 c.from.ensures c.if-not-is_ascii_digit.ensures.cases,
    )

pub returns-clause-some : goal.returns-clause-some
returns-clause-some c =
    let some : 1 ≤ length c.args.digits.now = grind (arith, nat_tests) in
    let few : length c.args.digits.now ≤ MAX_DIGITS = omega arith in
    all_read c.args.digits.now c.loop-digit.digit-index c.loop-digit-test.false _ c.loop-digit.invariant.0 c.loop-digit.invariant.1 some few
