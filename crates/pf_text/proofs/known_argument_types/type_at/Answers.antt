use Rattle.std.proofs.Common.{◌∙◌, arith, sym}
use Rattle.pf_text.proofs.ReadingLemmas.{bare_typed}
use Rattle.pf_text.proofs.known_argument_types.type_at.Goals as goal

pub returns-in-Some : goal.returns-in-Some
returns-in-Some c = (
  omega arith,
  omega (arith, c.requires.0),
  bare_typed c.args.model c.args.text.now c.args.at c.in-Some.conv c.bare_type.result c.requires (sym c.conv_of.ensures ∙ c.in-Some.is)
      c.bare_type.ensures,
)
