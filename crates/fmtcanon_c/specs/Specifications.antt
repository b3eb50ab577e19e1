-- Conversion specifications with their parts as records. This project's own.
use Rattle.std.specs.Prelude.{◌≡◌, ◌⊎◌, ◌++◌, ◌+◌, ℕ, ℤ, pos, List, MatchBool, Option, Some, None, drop, leb, length, if◌then◌else◌}
use Rattle.std.specs.List.{AllZip}
use Rattle.pf_values.specs.declared.flags.Flag.TheVariants.{Minus, Plus, Space, Alt, Zero, Group}
use Rattle.pf_values.specs.declared.models.Model.{Model}
use Rattle.pf_values.specs.meaning.Text.{Text}
use Rattle.pf_text.specs.declared.refusals.Refusal.{Refusal}
use Rattle.pf_text.specs.declared.refusals.Side.TheVariants.{First}
use Rattle.pf_posix.specs.declared.specification_spans.SpecificationSpan.{SpecificationSpan}
use Rattle.pf_posix.specs.OpaqueParts.{amount_of, parts_of_opaque}
use Rattle.pf_posix.specs.Refusals.{IsWholeRefusedAt}
use Rattle.pf_posix.specs.SpecificationSpans.{HasSpecifications}
use Rattle.pf_posix.specs.Specifications.{Amount, Given, Fetched}
use Rattle.pf_posix.specs.TypeNumbers.{number_of_type}
use Rattle.pf_whole.specs.declared.needless.NeedlessParts.{NeedlessParts}
use Rattle.pf_whole.specs.declared.parts.Part.{Part}
use Rattle.pf_whole.specs.declared.parts.Part.TheVariants.{Flag, Width, Precision, Modifier}
use Rattle.pf_whole.specs.declared.parts.PartSet.{PartSet}
use Rattle.pf_whole.specs.Needless.{AreNeedless}
use Rattle.pf_whole.specs.Parts.{has_part}
use Rattle.fmtcanon_c.specs.declared.interface.CError.{CError}
use Rattle.fmtcanon_c.specs.declared.specifications.CSpecification.{CSpecification}
use Rattle.fmtcanon_c.specs.declared.specifications.TheConstants.{NONE}
use Rattle.fmtcanon_c.specs.Directives.{index_or_none}
use Rattle.fmtcanon_c.specs.Errors.{IsRefusalCode}

-- the bit of a part, if it is in a set
abbrev pub bit_of : PartSet → Part → ℕ → ℕ
bit_of set part bit = if has_part set part then bit else 0

-- a set of parts as the sum of their bits, which are those of enum fmtcanon_part
abbrev pub part_bits : PartSet → ℕ
part_bits set = bit_of set (Flag Minus) 1 + bit_of set (Flag Plus) 2 + bit_of set (Flag Space) 4 + bit_of set (Flag Alt) 8
    + bit_of set (Flag Zero) 16 + bit_of set (Flag Group) 32 + bit_of set Width 64 + bit_of set Precision 128
    + bit_of set Modifier 256

-- a width or a precision that is a number
abbrev pub number_or_none : Option Amount → ℕ
number_or_none None = NONE
number_or_none (Some (Given n)) = n
number_or_none (Some (Fetched number)) = NONE

-- the record of a specification with these needless parts
abbrev pub specification_record : SpecificationSpan → NeedlessParts → CSpecification
specification_record span found = record {
  begin = span.directive.begin;
  flags_at = span.offsets.flags;
  width_at = span.offsets.width;
  precision_at = span.offsets.precision;
  modifier_at = span.offsets.modifier;
  end = span.directive.end;
  argument = span.directive.argument;
  width_argument = index_or_none span.directive.width_argument;
  precision_argument = index_or_none span.directive.precision_argument;
  width = number_or_none (amount_of span.parts.width);
  precision = number_or_none (amount_of span.parts.precision);
  kind = number_of_type span.directive.kind;
  parts = part_bits found.given;
  needless = part_bits found.each;
  together = part_bits found.together;
}

-- the record says which parts have no effect
abbrev pub IsRecordOf : Model → SpecificationSpan → CSpecification → Type 0
IsRecordOf model span entry = (found : NeedlessParts) × AreNeedless model (parts_of_opaque span.parts) found
    × (entry ≡ specification_record span found)

-- a record for each specification is put, where the buffer has room for all; any other is left as it is
abbrev pub ArePut : Model → List SpecificationSpan → List CSpecification → List CSpecification → Type 0
ArePut model listed out out_now = MatchBool (leb (length listed) (length out))
    ((records : List CSpecification) × AllZip (IsRecordOf model) listed records
    × (out_now ≡ records ++ drop (length listed) out))
    (out_now ≡ out)

-- the specifications of an accepted text are counted, and put so
abbrev pub HasPut : Model → Text → List CSpecification → ℤ → List CSpecification → Type 0
HasPut model t out code out_now = (listed : List SpecificationSpan) × HasSpecifications model t listed × (code ≡ pos (length listed))
    × ArePut model listed out out_now

-- the text is rejected, and the error says why and where
abbrev pub IsRejectedAs : Model → Text → ℤ → CError → Type 0
IsRejectedAs model t code error = (refusal : Refusal) × IsWholeRefusedAt model t refusal.kind refusal.at
    × IsRefusalCode First refusal code error

-- The records of the specifications are put, and their number is answered; or the text is rejected.
abbrev pub PutsSpecifications : Model → Text → List CSpecification → CError → ℤ → List CSpecification → CError → Type 0
PutsSpecifications model t out error code out_now error_now =
    (HasPut model t out code out_now × (error_now ≡ error))
    ⊎ ((out_now ≡ out) × IsRejectedAs model t code error_now)
