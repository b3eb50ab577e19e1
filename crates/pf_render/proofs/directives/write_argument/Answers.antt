use Rattle.std.proofs.Common.{◌≡◌, arith, to_z, of_z}
use Rattle.std.specs.Int.{w128}
use Rattle.std.proofs.lemmas.Int.{ints}
use Rattle.pf_values.proofs.PrintsOnce.{PrintsOnly-is}
use Rattle.pf_render.proofs.directives.write_argument.Goals as goal

pub returns-in-String : goal.returns-in-String
returns-in-String g c =
    let out = c.write_string.ensures c.args.model in (
      out.0,
      PrintsOnly-is c.args.model c.args.directive.now (g.A.FormatArgument.argument_of c.args.argument.now) out.0 c.requires.typed
          (rw c.string_of.ensures out.1),
      out.2,
    )

pub returns-in-Char : goal.returns-in-Char
returns-in-Char g c =
    let out = c.write_char.ensures c.args.model in
    let number : to_z w128 (of_z w128 c.number_of.result) ≡ c.number_of.result = omega (arith, ints) in (
      out.0,
      PrintsOnly-is c.args.model c.args.directive.now (g.A.FormatArgument.argument_of c.args.argument.now) out.0 c.requires.typed
          (rw c.number_of.ensures (rw number at out.1)),
      out.2,
    )

pub returns-in_default : goal.returns-in_default
returns-in_default g c =
    let out = c.write_integer.ensures in
    let number : to_z w128 (of_z w128 c.number_of-in_default.result) ≡ c.number_of-in_default.result = omega (arith, ints) in (
      out.0,
      PrintsOnly-is c.args.model c.args.directive.now (g.A.FormatArgument.argument_of c.args.argument.now) out.0 c.requires.typed
          (rw c.number_of-in_default.ensures (rw number at out.1)),
      out.2,
    )
