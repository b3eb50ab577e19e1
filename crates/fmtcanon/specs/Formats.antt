-- Formats as they are given, and offsets in them. This project's own.
use Rattle.std.specs.Prelude.{◌≡◌, ℕ, ⊤}
use Rattle.pf_literals.specs.declared.faults.LiteralFault.{LiteralFault}
use Rattle.pf_literals.specs.declared.faults.LiteralFault.TheVariants.{Refused, Memory}
use Rattle.pf_literals.specs.declared.faults.LiteralRefusal.{LiteralRefusal}
use Rattle.pf_literals.specs.Answers.{IsOffsetOf}
use Rattle.pf_literals.specs.Encoding.{encoding}
use Rattle.pf_literals.specs.Faults.{IsFaultAt}
use Rattle.pf_literals.specs.Laws.{AreCStringBytes}
use Rattle.pf_literals.specs.Sources.{IsSourceOf}
use Rattle.pf_values.specs.declared.models.Model.{Model}
use Rattle.pf_values.specs.meaning.Canonical.{IsCanonicalOf}
use Rattle.pf_values.specs.meaning.Text.{Text}
use Rattle.fmtcanon.specs.declared.formats.GivenFormat.{GivenFormat}
use Rattle.fmtcanon.specs.declared.formats.FormatNotation.{FormatNotation}
use Rattle.fmtcanon.specs.declared.formats.FormatNotation.TheVariants.{Bytes, Literals}

-- a text gives these bytes: it is them, or it is string literals with these bytes
abbrev pub HoldsFormat : FormatNotation → Text → Text → Type 0
HoldsFormat Bytes text bytes = bytes ≡ text
HoldsFormat Literals text bytes = IsSourceOf text bytes

-- the offset in the text of a byte that it gives, or of the end of the bytes
abbrev pub IsOffsetInText : FormatNotation → Text → ℕ → ℕ → Type 0
IsOffsetInText Bytes text index at = at ≡ index
IsOffsetInText Literals text index at = IsOffsetOf text index at

-- the text gives no bytes, for this reason
abbrev pub HoldsNoFormat : FormatNotation → Text → LiteralRefusal → Type 0
HoldsNoFormat Bytes text refusal = ⊥
HoldsNoFormat Literals text refusal = IsFaultAt text refusal.kind refusal.at

-- how bytes are written
abbrev pub written_in : FormatNotation → Text → Text
written_in Bytes bytes = bytes
written_in Literals bytes = encoding bytes

-- the bytes of a format that is given, and why it has none
abbrev pub IsFormat : GivenFormat → Text → Type 0
IsFormat given bytes = HoldsFormat given.notation given.text.now bytes

abbrev pub IsNoFormat : GivenFormat → LiteralRefusal → Type 0
IsNoFormat given refusal = HoldsNoFormat given.notation given.text.now refusal

-- the bytes of literals are made in memory
abbrev pub MakesBytes : FormatNotation → Type 0
MakesBytes Bytes = ⊥
MakesBytes Literals = ⊤

-- why it has no bytes
abbrev pub IsBytesFault : GivenFormat → LiteralFault → Type 0
IsBytesFault given (Refused refusal) = IsNoFormat given refusal
IsBytesFault given Memory = MakesBytes given.notation

-- something holds of its bytes
abbrev pub HoldsOf : GivenFormat → (Text → Type 0) → Type 0
HoldsOf given Holds = (bytes : Text) × IsFormat given bytes × Holds bytes

-- something holds of its bytes at the index in them that belongs to an offset in the text
pub record HoldsAt (given : GivenFormat) (Holds : Text → ℕ → Type 0) (reported : ℕ) : Type 0 where
  pub bytes : Text
  pub gives : IsFormat given bytes
  pub at : ℕ
  pub holds : Holds bytes at
  pub offset_is : IsOffsetInText given.notation given.text.now at reported

-- `literal` is the canonical text of the format that `t` gives as literals, as one literal
pub record IsCanonicalLiteralOf (model : Model) (t literal : Text) : Type 0 where
  pub bytes : Text
  pub canonical : Text
  pub gives : IsSourceOf t bytes
  pub canonical_is : IsCanonicalOf model bytes canonical
  pub nonzero : AreCStringBytes canonical
  pub literal_is : literal ≡ encoding canonical
