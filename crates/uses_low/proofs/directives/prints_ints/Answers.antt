use Rattle.std.proofs.Common.{sym, ◌∙◌, ◌≡◌}
use Rattle.pf_values.specs.declared.types.ArgType.TheVariants.{Int}
use Rattle.pf_values.specs.meaning.Arguments.{HasType, Number}
use Rattle.pf_values.specs.meaning.DataModel.{arg_type}
use Rattle.uses_low.proofs.directives.prints_ints.Goals as goal

pub returns-in-Int : goal.returns-in-Int
returns-in-Int c takes number typed =
    let is_int : arg_type c.args.model c.args.directive.now ≡ Int = sym c.arg_type.ensures ∙ c.in-Int.is in
    let fitting : HasType c.args.model (Number number) (arg_type c.args.model c.args.directive.now) = rw is_int typed in
    c.prints_once.ensures c.args.model c.args.directive.now (Number number) fitting
