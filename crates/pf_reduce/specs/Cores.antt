-- Directives made of parts as a normal directive writes them. This project's own.
use Rattle.std.specs.Prelude.{◌≡◌, if◌then◌else◌, Bool, ℕ, zero, suc, Option, Some, None}
use Rattle.pf_values.specs.declared.flags.Flag.TheVariants.{Minus}
use Rattle.pf_values.specs.declared.flags.FlagSet.{FlagSet}
use Rattle.pf_values.specs.declared.models.Model.{Model}
use Rattle.pf_values.specs.meaning.Conversions.{kept_conv}
use Rattle.pf_values.specs.meaning.DataModel.{kept_length}
use Rattle.pf_values.specs.meaning.Flags.{with_flag}
use Rattle.pf_values.specs.meaning.Normal.{IsNormal}
use Rattle.pf_values.specs.meaning.Specification.{Specification}
use Rattle.pf_values.specs.Directives.{specification_of}
use Rattle.pf_reduce.specs.declared.padding.Padding.{Padding}
use Rattle.pf_reduce.specs.declared.results.Core.TheVariants.{Normal}
use Rattle.pf_reduce.specs.declared.results.Reduced.{Reduced}
use Rattle.pf_reduce.specs.Reducing.{IsReducedTo, itself}

-- a precision of 1 counts as no precision (C11 7.21.6.1 p8)
abbrev pub kept_precision : ℕ → Option ℕ
kept_precision (suc zero) = None
kept_precision precision = Some precision

-- `-` for a body at the left of its field (C11 7.21.6.1 p6)
abbrev pub with_side : Bool → FlagSet → FlagSet
with_side left flags = if left then with_flag flags Minus else flags

-- a directive with another width, other flags and another precision, and with the length modifier
-- and the conversion that a normal directive has for its own
abbrev pub core_of_parts : Model → Specification → Padding → FlagSet → Option ℕ → Specification
core_of_parts model s p flags precision =
    specification_of (with_side p.left flags) (Some p.width) precision (kept_length model s.length)
    (kept_conv s.conv)

-- such a directive as a core, within the constant padding
abbrev pub padded_core : Model → Specification → Padding → FlagSet → Option ℕ → Reduced
padded_core model s p flags precision = record {
  spaces = p.spaces;
  zeros = p.zeros;
  core = Normal (record {
    model = model;
    specification = core_of_parts model s p flags precision;
  });
  trail = p.trail;
}

-- such a directive is normal, and the other is reduced to it; if that is normal, it is the other itself
pub record IsReducedAs (model : Model) (s : Specification) (p : Padding) (flags : FlagSet) (precision : Option ℕ) : Type 0 where
  pub normal : IsNormal model (core_of_parts model s p flags precision)
  pub reduced : IsReducedTo model s (padded_core model s p flags precision)
  pub kept : IsNormal model s → padded_core model s p flags precision ≡ itself model s
