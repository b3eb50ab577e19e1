use Rattle.std.proofs.Common.{Some, arith, subst}
use Rattle.pf_text.specs.Offsets.{HasBytes}
use Rattle.pf_text.proofs.FoundLemmas.{spelled_some, width_is_spelled}
use Rattle.pf_text.proofs.SpecificationLemmas.{width_read}
use Rattle.pf_text.proofs.specification.number_at.Goals as goal

pub returns-in-49-to-57-clause-bytes : goal.returns-in-49-to-57-clause-bytes
returns-in-49-to-57-clause-bytes c =
    let digits = c.digits_at-number in
    let (bytes, spelled, few, h) = width_read c.args.text.now c.args.start digits.result.1 digits.result.0
    (omega (arith, c.if-start-text.false)) (omega (arith, c.in-49-to-57))
    (omega (arith, c.in-49-to-57)) digits.ensures.small (rw c.from.ensures at digits.ensures.digits) in
    subst (HasBytes c.args.text.now c.args.start digits.result.1) (width_is_spelled bytes (Some digits.result.0) spelled few) h

pub returns-in-49-to-57-clause-some : goal.returns-in-49-to-57-clause-some
returns-in-49-to-57-clause-some c =
    let digits = c.digits_at-number in
    let read = width_read c.args.text.now c.args.start digits.result.1 digits.result.0 (omega (arith, c.if-start-text.false)) (omega (arith, c.in-49-to-57))
    (omega (arith, c.in-49-to-57)) digits.ensures.small (rw c.from.ensures at digits.ensures.digits) in
    spelled_some read.0 (Some digits.result.0) read.1
