use Rattle.std.proofs.Common.{arith}
use Rattle.pf_text.proofs.SpecificationLemmas.{precision_read}
use Rattle.pf_text.proofs.specification.precision_at.Goals as goal

pub returns-clause-bytes : goal.returns-clause-bytes
returns-clause-bytes c =
    let digits = c.digits_at-number in
    let (bytes, spelled, few, h) = precision_read c.args.text.now c.args.start digits.result.1 digits.result.0
    (omega (arith, c.if-start-text.false)) c.if-text-start-ne46.false digits.ensures.small digits.ensures.digits in
    (bytes, spelled, h)
