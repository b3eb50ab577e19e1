-- Lines, and the bytes of an answer. This project's own.
use Rattle.std.specs.Prelude.{◌++◌, codes}
use Rattle.pf_values.specs.meaning.Text.{Text}
use Rattle.fmtcanon.specs.declared.lines.AnswerBytes.{AnswerBytes}
use Rattle.fmtcanon.specs.declared.lines.AnswerBytes.TheVariants.{Line, Bytes}

-- a text and a newline
abbrev pub line : Text → Text
line t = t ++ codes "\n"

-- the bytes of an answer
abbrev pub output_bytes : AnswerBytes → Text
output_bytes (Line line) = line.bytes
output_bytes (Bytes bytes) = bytes.items
