-- What is written of some bytes, as the code writes it. No public contract speaks of it.
use Rattle.std.specs.Prelude.{◌≡◌, ℕ, Bool, false, ◌*◌, ◌<◌, ◌≤◌, ◌++◌, length, drop}
use Rattle.pf_literals.specs.declared.spellings.Spelling.{Spelling}
use Rattle.pf_literals.specs.declared.spellings.Spelling.TheVariants.{Plain, Simple, Octal}
use Rattle.pf_literals.specs.declared.encoded_parts.EncodedPart.{EncodedPart}
use Rattle.pf_literals.specs.declared.encoded_parts.EncodedPart.TheVariants.{Verbatim, Byte}
use Rattle.pf_literals.specs.Elements.{Bytes}
use Rattle.pf_literals.specs.Encoding.{spelled}

-- the bytes of a spelling
abbrev pub spelling_bytes : Spelling → Bytes
spelling_bytes (Plain bytes) = bytes
spelling_bytes (Simple bytes) = bytes
spelling_bytes (Octal bytes) = bytes

-- what is written for a part
abbrev pub encoded_part_text : EncodedPart → Bytes
encoded_part_text (Verbatim verbatim) = verbatim.now
encoded_part_text (Byte spelling question) = spelling_bytes spelling

-- how many bytes it is written for
abbrev pub source_len : EncodedPart → ℕ
source_len (Verbatim verbatim) = length verbatim.now
source_len (Byte spelling question) = 1

-- the last of these bytes is a `?`
abbrev pub ends_in_question : EncodedPart → Bool
ends_in_question (Verbatim verbatim) = false
ends_in_question (Byte spelling question) = question

-- what is written for a text is what is written for its first bytes, and for the rest
pub record IsEncodedPartOf (after : Bool) (t : Bytes) (part : EncodedPart) : Type 0 where
  pub text : spelled after t ≡ encoded_part_text part ++ spelled (ends_in_question part) (drop (source_len part) t)
  pub some : 0 < source_len part
  pub within : source_len part ≤ length t
  pub few : length (encoded_part_text part) ≤ 4 * source_len part
