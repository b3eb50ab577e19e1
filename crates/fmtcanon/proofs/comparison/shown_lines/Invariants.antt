use Rattle.std.proofs.Common.{◌≡◌, ◌++◌, codes, take}
use Rattle.std.specs.Prelude.{flat_map}
use Rattle.fmtcanon.specs.Lines.{line}
use Rattle.fmtcanon.specs.Comparisons.{shown_line}
use Rattle.fmtcanon.proofs.comparison.shown_lines.Given as goal

-- the lines so far
abbrev pub invariant-loop-argument : goal.invariant-loop-argument
invariant-loop-argument l = l.out.items ≡ line (codes "different") ++ flat_map shown_line (take l.argument-index l.shown)
