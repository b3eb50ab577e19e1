use Rattle.std.proofs.Common.{ap, pos}
use Rattle.pf_values.specs.Arg as program
use Rattle.pf_render.proofs.arguments.ArgFormatArgument.as_string.Goals as goal

pub returns-in-UInt : goal.returns-in-UInt
returns-in-UInt c = (pos c.in-UInt.field-0, ap program.argument_of c.in-UInt.is)

pub returns-in-ULong : goal.returns-in-ULong
returns-in-ULong c = (pos c.in-ULong.field-0, ap program.argument_of c.in-ULong.is)

pub returns-in-ULongLong : goal.returns-in-ULongLong
returns-in-ULongLong c = (pos c.in-ULongLong.field-0, ap program.argument_of c.in-ULongLong.is)
