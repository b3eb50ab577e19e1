use Rattle.std.proofs.Common.{◌≤◌, arith, ◌∙◌}
use Rattle.std.proofs.lemmas.Int.Digits.{length-digits_of_step}
use Rattle.std.proofs.lemmas.List.{drop_all, append-nil, length-set}
use Rattle.std.specs.Fmt.{digit_glyph}
use Rattle.pf_render.proofs.DigitLemmas.{digit_in_front, fits}
use Rattle.pf_render.specs.declared.digits.TheConstants.{MAX_DIGITS}
use Rattle.pf_render.proofs.digits.write_based.Goals as goal

pub loop-left-init : goal.loop-left-init
loop-left-init c =
    record {
      size = c.told-buf;
      within = omega arith;
      room = fits c.args.base c.args.number c.requires.0 c.ranges.number.fits;
      digits = rw (drop_all MAX_DIGITS c.args.buf.now (omega arith)) (append-nil _);
    }

pub overflow_sub-start : goal.overflow_sub-start
overflow_sub-start c = omega (arith, c.loop-left.invariant.room, length-digits_of_step c.args.base c.loop-left.left (omega arith) c.loop-left-test.true)

pub loop-left-preserved : goal.loop-left-preserved
loop-left-preserved c =
    let base : 2 ≤ c.args.base = omega arith in
    let shorter = length-digits_of_step c.args.base c.loop-left.left base c.loop-left-test.true in
    let within = c.loop-left.invariant.within in
    record {
      size = length-set _ _ _ ∙ c.loop-left.invariant.size;
      within = omega arith;
      room = omega (arith, c.loop-left.invariant.room);
      digits = rw c.glyph.ensures (digit_in_front (digit_glyph c.args.capitals) c.args.base c.loop-left.left c.loop-left.start c.loop-left.buf _ base
          c.loop-left-test.true (omega (arith, c.loop-left.invariant.room)) (omega (arith, c.loop-left.invariant.size)) c.loop-left.invariant.digits);
    }
