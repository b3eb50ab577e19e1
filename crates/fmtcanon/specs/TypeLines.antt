-- The types of a format's arguments, as lines. This project's own.
use Rattle.std.specs.Prelude.{◌≡◌, List, codes, flat_map}
use Rattle.pf_values.specs.declared.models.Model.{Model}
use Rattle.pf_values.specs.declared.types.ArgType.{ArgType}
use Rattle.pf_values.specs.declared.types.ArgType.TheVariants.{Int, UInt, Long, ULong, LongLong, ULongLong, Str}
use Rattle.pf_values.specs.meaning.Items.{HasItems, Item, types}
use Rattle.pf_values.specs.meaning.Text.{Text}
use Rattle.fmtcanon.specs.Lines.{line}

-- a type as C names it, except for a string
abbrev pub type_name : ArgType → Text
type_name Int = codes "int"
type_name UInt = codes "unsigned int"
type_name Long = codes "long"
type_name ULong = codes "unsigned long"
type_name LongLong = codes "long long"
type_name ULongLong = codes "unsigned long long"
type_name Str = codes "string"

-- the name in a line
abbrev pub type_line : ArgType → Text
type_line type = line (type_name type)

-- a line for each argument of an accepted format, in order
abbrev pub HasTypeLines : Model → Text → Text → Type 0
HasTypeLines model format lines =
    (items : List Item) × HasItems format items × (lines ≡ flat_map type_line (types model items))
