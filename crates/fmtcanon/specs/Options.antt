-- The options without a value that clap finds for a command. This project's own.
use Rattle.std.specs.Prelude.{Bool, false, List, codes, if◌then◌else◌}
use Rattle.std.specs.Option.{option_map_or}
use Rattle.std.specs.Str.{bytes_eq}
use Rattle.clap.specs.Matches.{found_of}
use Rattle.clap.specs.Walk.{Row, first_of, rows_of}
use Rattle.clap.specs.declared.parser.matches.ArgMatches.{ArgMatches}
use Rattle.pf_values.specs.meaning.Text.{Text}
use Rattle.fmtcanon.specs.declared.formats.FormatNotation.{FormatNotation}
use Rattle.fmtcanon.specs.declared.formats.FormatNotation.TheVariants.{Bytes, Literals}

-- the values that clap found for a subcommand
abbrev pub rows_in : ArgMatches → List Row
rows_in inner = rows_of (found_of inner)

-- an option without a value is given
abbrev pub is_set : Text → List Row → Bool
is_set id rows = option_map_or (λ value. bytes_eq value (codes "true")) (first_of id rows) false

-- `--null`: the formats come as records
abbrev pub is_null : List Row → Bool
is_null rows = is_set (codes "null") rows

-- `--whole`: they may be of the whole language
abbrev pub is_whole : List Row → Bool
is_whole rows = is_set (codes "whole") rows

-- `--fewer`: the second may take fewer arguments
abbrev pub is_fewer : List Row → Bool
is_fewer rows = is_set (codes "fewer") rows

-- `--literal`: they are given by string literals
abbrev pub notation_in : List Row → FormatNotation
notation_in rows = if is_set (codes "literal") rows then Literals else Bytes
