use Rattle.pf_render.proofs.TextLemmas.{Prints-string}
use Rattle.pf_render.proofs.texts.write_string.Goals as goal

pub returns : goal.returns
returns g c model = (
  _,
  Prints-string model c.args.directive.now c.args.bytes.now c.printed_front.result.now c.requires.string c.printed_front.ensures,
  c.write_text.ensures,
)
