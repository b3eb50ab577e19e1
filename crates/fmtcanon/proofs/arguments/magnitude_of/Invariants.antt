use Rattle.std.proofs.Common.{◌≡◌, pos, take}
use Rattle.std.specs.List.{All}
use Rattle.fmtcanon.proofs.MagnitudeLemmas.{IsDigitByte, number_read}
use Rattle.fmtcanon.proofs.arguments.magnitude_of.Given as goal

-- the bytes so far are digits, and their number is kept
abbrev pub invariant-loop-digit : goal.invariant-loop-digit
invariant-loop-digit l = All IsDigitByte (take l.digit-index l.digits) × (l.magnitude ≡ pos (number_read (take l.digit-index l.digits)))
