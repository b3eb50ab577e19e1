use Rattle.std.proofs.Common.{sym, ap, ◌∙◌, length}
use Rattle.pf_values.specs.meaning.Items.{types}
use Rattle.pf_values.proofs.ItemTypes.{types-bytes}
use Rattle.pf_render.specs.FormatParts.{directive_or_bytes}
use Rattle.pf_render.proofs.format_parts.FormatPart.argument_count.Goals as goal

pub returns-in-None : goal.returns-in-None
returns-in-None c model =
    let bytes = c.args.self.now.literal.now in
    sym (ap (λ d. length (types model (directive_or_bytes d bytes))) c.in-None.is ∙ ap length (types-bytes model bytes))
