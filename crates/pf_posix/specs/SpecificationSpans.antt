-- The conversion specifications of a text with their parts: where each part is, and what it says.
use Rattle.std.specs.Prelude.{◌≡◌, ℕ, ◌+◌, ◌-◌, List, [], ◌∷◌, map, Option, Some, None}
use Rattle.std.specs.List.{AllByRecursion}
use Rattle.pf_values.specs.declared.flags.Flag.{Flag}
use Rattle.pf_values.specs.declared.models.Model.{Model}
use Rattle.pf_values.specs.meaning.Flags.{flag_byte, flag_set}
use Rattle.pf_values.specs.meaning.Text.{Text, percent}
use Rattle.pf_text.specs.Offsets.{HasBytes}
use Rattle.pf_posix.specs.declared.specification_spans.PartOffsets.{PartOffsets}
use Rattle.pf_posix.specs.declared.specification_spans.SpecificationSpan.{SpecificationSpan}
use Rattle.pf_posix.specs.Defined.{IsWholeDefined}
use Rattle.pf_posix.specs.Directives.{HasDirectives}
use Rattle.pf_posix.specs.OpaqueParts.{parts_of_opaque}
use Rattle.pf_posix.specs.Specifications.{Amount, Given, Fetched, WholeSpecification, conversion_letter, modifier_letters}
use Rattle.pf_posix.specs.Spelling.{SpellsPosition, SpellsWholePrecision, SpellsWholeWidth}

-- The bytes from one offset to the next spell the parts of a specification: `%` and the number of its argument, flags,
-- a width, a precision, a length modifier, and the conversion, which is the last byte (C11 7.21.6.1 p4; POSIX fprintf
-- on `%n$`). A part that it doesn't have has no bytes.
pub record AreWholePartsAt (t : Text) (begin end : ℕ) (at : PartOffsets) (s : WholeSpecification) : Type 0 where
  pub sign : HasBytes t begin (begin + 1) (percent ∷ [])
  pub number : (bytes : Text) × SpellsPosition bytes s.position × HasBytes t (begin + 1) at.flags bytes
  pub flags : (flags : List Flag) × (s.flags ≡ flag_set flags) × HasBytes t at.flags at.width (map flag_byte flags)
  pub width : (bytes : Text) × SpellsWholeWidth bytes s.position s.width × HasBytes t at.width at.precision bytes
  pub precision : (bytes : Text) × SpellsWholePrecision bytes s.position s.precision
      × HasBytes t at.precision at.modifier bytes
  pub modifier : HasBytes t at.modifier (end - 1) (modifier_letters s.modifier)
  pub conversion : HasBytes t (end - 1) end (conversion_letter s.conversion ∷ [])

-- a `*` without the number of its argument
abbrev pub without_number : Option Amount → Option Amount
without_number None = None
without_number (Some (Given n)) = Some (Given n)
without_number (Some (Fetched number)) = Some (Fetched None)

-- the specification alone, as a text of its own has it: without the numbers of its arguments
abbrev pub alone : WholeSpecification → WholeSpecification
alone s = record s { position = None; width = without_number s.width; precision = without_number s.precision }

-- a specification is defined, and its offsets and parts are those of the bytes that it is
pub record HasItsParts (t : Text) (span : SpecificationSpan) : Type 0 where
  pub s : WholeSpecification
  pub defined : IsWholeDefined s
  pub places : AreWholePartsAt t span.directive.begin span.directive.end span.offsets s
  pub parts_are : parts_of_opaque span.parts ≡ alone s

-- a text is accepted, these are its specifications, and each has its parts
pub record HasSpecifications (model : Model) (t : Text) (specifications : List SpecificationSpan) : Type 0 where
  pub listed : HasDirectives model t (map (λ span. span.directive) specifications)
  pub each : AllByRecursion (HasItsParts t) specifications
