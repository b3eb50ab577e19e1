-- What is reported of an outcome on standard error. This project's own.
use Rattle.std.specs.Prelude.{ℕ, [], ◌++◌, codes, decimal, length, ◌<◌, ◌⊎◌, Option, None, Some, string_bytes}
use Rattle.pf_values.specs.declared.counted.Counted.{Counted}
use Rattle.pf_values.specs.Counting.{Known, WritesAll, WritesFirst}
use Rattle.pf_values.specs.RefusalKinds.{name, number}
use Rattle.pf_values.specs.meaning.Text.{Text}
use Rattle.pf_literals.specs.declared.faults.LiteralRefusal.{LiteralRefusal}
use Rattle.pf_literals.specs.Kinds as literals
use Rattle.pf_text.specs.declared.refusals.Refusal.{Refusal}
use Rattle.pf_text.specs.declared.refusals.Side.{Side}
use Rattle.pf_text.specs.declared.refusals.Side.TheVariants as sides
use Rattle.fmtcanon.specs.Lines.{line}
use Rattle.fmtcanon.specs.declared.outcome.Outcome.{Outcome}
use Rattle.fmtcanon.specs.declared.outcome.Outcome.TheVariants.{Refused, BadLiteral, BadWord, WrongCount, WrongType, NoSecond, Usage, Missing, Misplaced, Read, Write, Memory}

-- which format is rejected, where there are two
abbrev pub side_words : Option Side → Text
side_words None = []
side_words (Some sides.First) = codes "first: "
side_words (Some sides.Second) = codes "second: "

-- what is wrong with it, with its number, its name and its offset
abbrev pub fault_words : Option Side → Text → ℕ → Text → ℕ → Text
fault_words side what number name at =
    side_words side ++ what ++ decimal number ++ codes " " ++ name ++ codes " at byte " ++ decimal at

abbrev pub refusal_words : Option Side → Refusal → Text
refusal_words side refusal =
    fault_words side (codes "refused ") (number refusal.kind) (name refusal.kind) refusal.at

abbrev pub literal_words : Option Side → LiteralRefusal → Text
literal_words side refusal = fault_words side (codes "literal ")
    (literals.literal_kind_number refusal.kind) (literals.literal_kind_name refusal.kind) refusal.at

-- the line about what failed, if there is one
abbrev pub line_text : Outcome → Text
line_text (Refused side refusal) = line (refusal_words side refusal)
line_text (BadLiteral side refusal) = line (literal_words side refusal)
line_text (BadWord index) =
    line (codes "argument " ++ decimal index ++ codes ": " ++ codes "not an argument")
line_text (WrongCount wanted given) =
    line (codes "argument count: wanted " ++ decimal wanted ++ codes ", given " ++ decimal given)
line_text (WrongType index) =
    line (codes "argument " ++ decimal index ++ codes ": " ++ codes "wrong type")
line_text NoSecond = line (codes "a second format is wanted")
line_text Read = line (codes "read failed")
line_text (Write written) = line (codes "write failed")
line_text Memory = line (codes "out of memory")
line_text _ = []

-- What is reported of an outcome: nothing if all was written, the text of a usage error as it is, and
-- otherwise a line.
abbrev pub report_text : Outcome → Text
report_text (Usage text) = string_bytes text
report_text Missing =
    codes "error: a format is missing; give it as an argument, or use '--null'\n\nFor more information, try '--help'.\n"
report_text Misplaced =
    codes "error: '--null' takes no formats as arguments\n\nFor more information, try '--help'.\n"
report_text outcome = line_text outcome

-- all of a text went out, or just its first bytes and one call failed
abbrev pub WritesReport : {W : Type 0} → (W → Known) → Counted W → Counted W → Text → Type 0
WritesReport contents old new text =
    WritesAll contents old new text
    ⊎ ((written : ℕ) × (written < length text) × WritesFirst contents old new text written)
