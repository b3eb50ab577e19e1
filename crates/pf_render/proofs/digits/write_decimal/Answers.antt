use Rattle.std.proofs.Common.{◌≡◌, ◌<◌, arith, refl, ◌∙◌}
use Rattle.std.proofs.lemmas.Fmt.{length-decimal-le}
use Rattle.std.proofs.lemmas.List.{drop_all, append-nil}
use Rattle.pf_render.proofs.DigitLemmas.{decimal_glyphs}
use Rattle.pf_render.specs.declared.digits.TheConstants.{MAX_DIGITS}
use Rattle.pf_render.proofs.digits.write_decimal.Goals as goal

pub write_digits-requires : goal.write_digits-requires
write_digits-requires c = (length-decimal-le MAX_DIGITS c.args.number (omega arith) (omega arith) (omega arith), omega arith)

pub returns-then-number-eq0-clause-digits : goal.returns-then-number-eq0-clause-digits
returns-then-number-eq0-clause-digits c = λ capitals.
    let none : c.args.number ≡ 0 = c.if-number-eq0.true in
    rw (none, drop_all MAX_DIGITS c.args.buf.now (omega arith)) refl

pub returns-clause-digits : goal.returns-clause-digits
returns-clause-digits c = λ capitals.
    let some : 0 < c.args.number = omega arith in
    rw (c.write_digits.ensures.written, drop_all MAX_DIGITS c.args.buf.now (omega arith))
    (append-nil _ ∙ decimal_glyphs capitals c.args.number some c.ranges.number.fits)
