-- A byte or a string has no length modifier, in any data model.
use Rattle.std.proofs.Common.{◌≡◌, ℕ, Option, Some, None, inl, inr, rules}
use Rattle.std.specs.Prelude.{◌⊎◌}
use Rattle.pf_values.specs.declared.conversions.Conv.TheVariants.{C, S}
use Rattle.pf_values.specs.declared.flags.FlagSet.{FlagSet}
use Rattle.pf_values.specs.declared.lengths.Length.TheVariants as lengths
use Rattle.pf_values.specs.declared.models.Model.{Model}
use Rattle.pf_values.specs.meaning.Defined.{refused_as}
use Rattle.pf_values.specs.meaning.Normal.{IsNormal}
use Rattle.pf_values.specs.meaning.Specification.{Specification}
use Rattle.pf_values.specs.Directives.{specification_of}
use Rattle.pf_reduce.specs.declared.padding.Padding.{Padding}
use Rattle.pf_reduce.specs.Cores.{core_of_parts, with_side}

pub no_length : (s : Specification) → refused_as s ≡ None → (s.conv ≡ C) ⊎ (s.conv ≡ S) → s.length ≡ lengths.None
no_length s allowed (inl is) = search rules
no_length s allowed (inr is) = search rules

pub normal_string : (model : Model) (s : Specification) (p : Padding) (flags : FlagSet) (precision : Option ℕ) → refused_as s ≡ None → s.conv ≡ S
    → IsNormal model (specification_of (with_side p.left flags) (Some p.width) precision lengths.None S)
    → IsNormal model (core_of_parts model s p flags precision)
normal_string model s p flags precision allowed is h =
    let none = no_length s allowed (inr is) in
    rw none (rw is h)
