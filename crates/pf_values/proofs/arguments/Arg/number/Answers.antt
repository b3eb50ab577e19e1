use Rattle.std.proofs.Common.{ap}
use Rattle.pf_values.specs.Arg.{argument_of}
use Rattle.pf_values.proofs.arguments.Arg.number.Goals as goal

pub returns-in-Str : goal.returns-in-Str
returns-in-Str c = (_, ap argument_of c.in-Str.is)
