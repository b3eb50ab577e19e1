use Rattle.std.proofs.Common.{◌≡◌, take}
use Rattle.std.specs.Prelude.{flat_map}
use Rattle.fmtcanon.specs.ArgumentLines.{argument_line}
use Rattle.fmtcanon.proofs.type_lines.lines_of_arguments.Given as goal

-- the lines so far
abbrev pub invariant-loop-argument_type : goal.invariant-loop-argument_type
invariant-loop-argument_type l = l.out.items ≡ flat_map argument_line (take l.argument_type-index l.types)
