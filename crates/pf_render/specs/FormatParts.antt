-- What the parts of a format are. This project's own.
use Rattle.std.specs.Prelude.{List, [], ◌∷◌, map, Option, Some, None}
use Rattle.pf_values.specs.meaning.Items.{Item, Byte, Directive}
use Rattle.pf_values.specs.meaning.Specification.{Specification}
use Rattle.pf_values.specs.meaning.Text.{Text}
use Rattle.pf_render.specs.declared.format_parts.FormatPart.{FormatPart}

-- the items of a part: a directive, or literal bytes
abbrev pub directive_or_bytes : Option Specification → Text → List Item
directive_or_bytes (Some d) bytes = Directive d ∷ []
directive_or_bytes None bytes = map Byte bytes

-- the items of one part
abbrev pub items_of_part : FormatPart → List Item
items_of_part part = directive_or_bytes part.directive part.literal.now
