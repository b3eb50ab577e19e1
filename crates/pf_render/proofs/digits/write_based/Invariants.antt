use Rattle.std.proofs.Common.{◌≡◌, ◌≤◌, ◌++◌, length, map, drop}
use Rattle.std.specs.Fmt.{digit_glyph}
use Rattle.std.specs.Int.Digits.{digits_of}
use Rattle.pf_render.specs.declared.digits.TheConstants.{MAX_DIGITS}
use Rattle.pf_render.proofs.digits.write_based.Given as goal

-- the digits of what is left come in front of those that are written, and fit there
abbrev pub invariant-loop-left : goal.invariant-loop-left
invariant-loop-left l =
    record {
      size : length l.buf ≡ MAX_DIGITS;
      within : l.start ≤ MAX_DIGITS;
      room : length (digits_of l.base l.left) ≤ l.start;
      digits : map (digit_glyph l.capitals) (digits_of l.base l.left) ++ drop l.start l.buf ≡ map (digit_glyph l.capitals) (digits_of l.base l.number);
    }

abbrev pub decreases-loop-left : goal.decreases-loop-left
decreases-loop-left l = l.left
