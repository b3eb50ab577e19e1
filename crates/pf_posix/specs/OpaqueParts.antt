-- The parts of an opaque directive, and what the profile lacks, as the code holds them.
use Rattle.std.specs.Prelude.{ℕ, Option, Some, None}
use Rattle.pf_values.specs.declared.conversions.Conv.{Conv}
use Rattle.pf_values.specs.declared.conversions.Conv.TheVariants.{D}
use Rattle.pf_values.specs.declared.lengths.Length.TheVariants as lengths
use Rattle.pf_values.specs.meaning.Flags.{no_flags}
use Rattle.pf_values.specs.meaning.Specification.{Specification}
use Rattle.pf_posix.specs.declared.conversions.WholeConv.{WholeConv}
use Rattle.pf_posix.specs.declared.conversions.WholeConv.TheVariants.{Profile}
use Rattle.pf_posix.specs.declared.conversions.WholeLength.TheVariants.{Integer}
use Rattle.pf_posix.specs.Opaque.{OpaqueErrno, OpaqueItem, OpaqueSpecification}
use Rattle.pf_posix.specs.Specifications.{Amount, Given, Fetched, WholeSpecification}
use Rattle.pf_posix.specs.Types.{integer_length}
use Rattle.pf_posix.specs.declared.opaque_directives.Opaque.{Opaque}
use Rattle.pf_posix.specs.declared.opaque_directives.Opaque.TheVariants as opaques
use Rattle.pf_posix.specs.declared.opaque_directives.OpaqueDirective.{OpaqueDirective}
use Rattle.pf_posix.specs.declared.opaque_directives.OpaqueAmount.{OpaqueAmount}
use Rattle.pf_posix.specs.declared.opaque_directives.OpaqueAmount.TheVariants as amounts

-- the width or precision that the code's value is, with the number of its argument, which only a `*` has
abbrev pub amount_at : Option OpaqueAmount → Option ℕ → Option Amount
amount_at None number = None
amount_at (Some (amounts.Number n)) number = Some (Given n)
amount_at (Some amounts.Star) number = Some (Fetched number)

-- without a number
abbrev pub amount_of : Option OpaqueAmount → Option Amount
amount_of amount = amount_at amount None

-- the specification with the directive's parts
abbrev pub parts_of_opaque : OpaqueDirective → WholeSpecification
parts_of_opaque d = record {
  position = None;
  flags = d.flags;
  width = amount_of d.width;
  precision = amount_of d.precision;
  modifier = d.modifier;
  conversion = d.conversion;
}

-- a conversion alone
abbrev pub bare : WholeConv → OpaqueDirective
bare conversion = record {
  flags = no_flags;
  width = None;
  precision = None;
  modifier = Integer lengths.None;
  conversion = conversion;
}

-- the item that the code's value is
abbrev pub item_of_opaque : Opaque → OpaqueItem
item_of_opaque (opaques.Directive directive) = OpaqueSpecification (parts_of_opaque directive)
item_of_opaque opaques.Errno = OpaqueErrno

-- what the profile has of a width or a precision, of a conversion, and of a specification
abbrev pub amount_back : Option Amount → Option ℕ
amount_back None = None
amount_back (Some (Given n)) = Some n
amount_back (Some (Fetched number)) = None

abbrev pub conv_back : WholeConv → Conv
conv_back (Profile conv) = conv
conv_back _ = D

abbrev pub narrow : WholeSpecification → Specification
narrow s = record {
  flags = s.flags;
  width = amount_back s.width;
  precision = amount_back s.precision;
  length = integer_length s.modifier;
  conv = conv_back s.conversion;
}
