use Rattle.std.proofs.Common.{◌≡◌, take}
use Rattle.std.specs.Prelude.{flat_map}
use Rattle.fmtcanon.specs.TypeLines.{type_line}
use Rattle.fmtcanon.proofs.type_lines.lines_of_types.Given as goal

-- the lines so far
abbrev pub invariant-loop-arg_type : goal.invariant-loop-arg_type
invariant-loop-arg_type l = l.out.items ≡ flat_map type_line (take l.arg_type-index l.types)
