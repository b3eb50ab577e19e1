-- The parts of a specification from an offset of a text on, as the code reads them, and where each ends: the byte
-- there couldn't belong to it. Of these a public contract names `ModifierEnds`.
use Rattle.std.specs.Prelude.{◌≡◌, ℕ, ◌≢◌, ◌+◌, ◌-◌, ◌<◌, ◌≤◌, false, ◌==◌, drop, length, take, get_or, Option, Some, None, if◌then◌else◌, ⊤}
use Rattle.pf_values.specs.declared.lengths.Length.TheVariants as lengths
use Rattle.pf_values.specs.meaning.Text.{Text, dollar, point, star}
use Rattle.pf_text.specs.States.{is_digit}
use Rattle.pf_posix.specs.declared.conversions.WholeLength.{WholeLength}
use Rattle.pf_posix.specs.declared.conversions.WholeLength.TheVariants.{Integer}
use Rattle.pf_text.specs.Offsets.{EndsWidth, HasBytes}
use Rattle.pf_posix.specs.declared.opaque_directives.OpaqueAmount.{OpaqueAmount}
use Rattle.pf_posix.specs.declared.opaque_directives.OpaqueAmount.TheVariants as amounts
use Rattle.pf_posix.specs.declared.specifications.Specification.{Specification}
use Rattle.pf_posix.specs.Letters.{length_modifier_of}
use Rattle.pf_posix.specs.OpaqueParts.{amount_at}
use Rattle.pf_posix.specs.Specifications.{WholeSpecification}
use Rattle.pf_posix.specs.Spelling.{SpellsWhole, SpellsPositive}

-- the parts that the code has read
abbrev pub specification_read : Specification → WholeSpecification
specification_read read = record {
  position = read.position;
  flags = read.parts.flags;
  width = amount_at read.parts.width read.stars.width;
  precision = amount_at read.parts.precision read.stars.precision;
  modifier = read.parts.modifier;
  conversion = read.parts.conversion;
}

-- digits from an offset on that begin a number are a width: no `$` comes after them
abbrev pub IsFirstWidth : Text → ℕ → Type 0
IsFirstWidth t start = (stop n : ℕ) (digits : Text) → SpellsPositive digits n → HasBytes t start stop digits
    → get_or t stop 0 ≢ dollar

-- after a width, or in place of one
abbrev pub WidthEnds : Text → ℕ → Option ℕ → Option OpaqueAmount → Type 0
WidthEnds t at position None = EndsWidth None t at × (get_or t at 0 ≢ star)
WidthEnds t at position (Some (amounts.Number n)) = is_digit (get_or t at 0) ≡ false
WidthEnds t at position (Some amounts.Star) = position ≡ None → is_digit (get_or t at 0) ≡ false

-- after a precision that begins at `start`, or in place of one
abbrev pub PrecisionEnds : Text → ℕ → ℕ → Option ℕ → Option OpaqueAmount → Type 0
PrecisionEnds t start at position None = get_or t at 0 ≢ point
PrecisionEnds t start at position (Some (amounts.Number n)) =
    (is_digit (get_or t at 0) ≡ false) × (at ≡ start + 1 → get_or t at 0 ≢ star)
PrecisionEnds t start at position (Some amounts.Star) = position ≡ None → is_digit (get_or t at 0) ≡ false

-- only the argument of a `*` has a number
abbrev pub NumbersStar : Option OpaqueAmount → Option ℕ → Type 0
NumbersStar (Some amounts.Star) number = ⊤
NumbersStar amount number = number ≡ None

-- the modifier of two letters that this byte ends, if it does (C11 7.21.6.1 p7)
abbrev pub second_modifier : WholeLength → ℕ → Option WholeLength
second_modifier (Integer lengths.H) byte = if byte == 104 then Some (Integer lengths.Hh) else None
second_modifier (Integer lengths.L) byte = if byte == 108 then Some (Integer lengths.Ll) else None
second_modifier _ byte = None

-- after a modifier, or in place of one
abbrev pub ModifierEnds : Text → ℕ → WholeLength → Type 0
ModifierEnds t at (Integer lengths.None) = length_modifier_of (get_or t at 0) ≡ None
ModifierEnds t at modifier = second_modifier modifier (get_or t at 0) ≡ None

-- the bytes from an offset up to another spell a specification
pub record IsSpecificationAt (t : Text) (start : ℕ) (found : Specification × ℕ) : Type 0 where
  pub some : start < found.1
  pub within : found.1 ≤ length t
  pub spelled : SpellsWhole (take (found.1 - start) (drop start t)) (specification_read found.0)
