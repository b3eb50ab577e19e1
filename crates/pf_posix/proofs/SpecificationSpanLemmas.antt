-- The specifications of an accepted text with their parts, one after another.
use Rattle.std.proofs.Common.{◌≡◌, ℕ, refl, ap, ◌∙◌}
use Rattle.std.specs.Prelude.{Option, Some, None}
use Rattle.pf_values.specs.declared.models.Model.{Model}
use Rattle.pf_values.specs.meaning.Text.{Text}
use Rattle.pf_posix.specs.declared.opaque_directives.OpaqueAmount.{OpaqueAmount}
use Rattle.pf_posix.specs.declared.opaque_directives.OpaqueAmount.TheVariants as amounts
use Rattle.pf_posix.specs.declared.specification_spans.SpecificationSpan.{SpecificationSpan}
use Rattle.pf_posix.specs.declared.specifications.Specification.{Specification as Read}
use Rattle.pf_posix.specs.Defined.{IsWholeDefined}
use Rattle.pf_posix.specs.Directives.{directive_between}
use Rattle.pf_posix.specs.Halts.{offsets_read}
use Rattle.pf_posix.specs.OpaqueParts.{amount_at, amount_of, parts_of_opaque}
use Rattle.pf_posix.specs.PartsInText.{specification_read}
use Rattle.pf_posix.specs.SpecificationSpans.{AreWholePartsAt, HasItsParts, alone, without_number}
use Rattle.pf_posix.proofs.SpecificationsOnce.{same_fields}

-- what the code has read, alone
pub read_alone : (read : Read) → parts_of_opaque read.parts ≡ alone (specification_read read)
read_alone read =
    same_fields (parts_of_opaque read.parts) (alone (specification_read read)) refl refl (amount read.parts.width read.stars.width)
    (amount read.parts.precision read.stars.precision) refl refl where
      amount : (given : Option OpaqueAmount) (number : Option ℕ) → amount_of given ≡ without_number (amount_at given number)
      amount None number = refl
      amount (Some (amounts.Number n)) number = refl
      amount (Some amounts.Star) number = refl

-- the parts of a specification that the code has read
pub its_parts : (model : Model) (t : Text) (begin end next : ℕ) (read : Read) → IsWholeDefined (specification_read read)
    → AreWholePartsAt t begin end (offsets_read read) (specification_read read)
    → (span : SpecificationSpan) → span.directive ≡ directive_between model begin end next (specification_read read)
    → span.parts ≡ read.parts → span.offsets ≡ offsets_read read → HasItsParts t span
its_parts model t begin end next read defined places span spanned parts offsets = record {
  s = specification_read read;
  defined = defined;
  places = rw (spanned, offsets) places;
  parts_are = ap parts_of_opaque parts ∙ read_alone read;
}
