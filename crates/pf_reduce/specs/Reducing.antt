-- When a directive is what it is reduced to. This project's own.
use Rattle.std.specs.Prelude.{◌≡◌, ◌≤◌, ◌+◌, ◌++◌, replicate, ◌↔◌, ⊤}
use Rattle.pf_values.specs.declared.conversions.Conv.TheVariants.{S}
use Rattle.pf_values.specs.declared.limits.TheConstants.{MAX_NUMBER}
use Rattle.pf_values.specs.declared.models.Model.{Model}
use Rattle.pf_values.specs.meaning.Arguments.{Argument, HasType}
use Rattle.pf_values.specs.meaning.DataModel.{arg_type}
use Rattle.pf_values.specs.meaning.Normal.{IsNormal, silent}
use Rattle.pf_values.specs.meaning.Printing.{Prints}
use Rattle.pf_values.specs.meaning.Specification.{Specification}
use Rattle.pf_values.specs.meaning.Text.{Text, space, zero_digit}
use Rattle.pf_reduce.specs.declared.results.Core.{Core}
use Rattle.pf_reduce.specs.declared.results.Core.TheVariants.{Normal, Silent}
use Rattle.pf_reduce.specs.declared.results.Reduced.{Reduced}

-- the directive of a core
abbrev pub core_of : Core → Specification
core_of (Normal n) = n.specification
core_of Silent = silent

-- a normal directive that is its own core, with nothing around it
abbrev pub itself : Model → Specification → Reduced
itself model s = record {
  spaces = 0;
  zeros = 0;
  core = Normal (record { model = model; specification = s });
  trail = 0;
}

-- the core is normal in the data model that it names, or `%.0s`
abbrev pub IsNormalCore : Model → Core → Type 0
IsNormalCore model (Normal n) = (n.model ≡ model) × IsNormal model n.specification
IsNormalCore model Silent = ⊤

-- a text within spaces, after zeros
abbrev pub around : Reduced → Text → Text
around r inner =
    replicate r.spaces space ++ (replicate r.zeros zero_digit ++ (inner ++ replicate r.trail space))

-- for every argument the directive prints the spaces, the zeros, what the core prints, the spaces
abbrev pub PrintsReduced : Model → Specification → Reduced → Type 0
PrintsReduced model s r =
    (argument : Argument) (out : Text) → HasType model argument (arg_type model s)
    → (Prints model s argument out ↔ (
    (inner : Text) × Prints model (core_of r.core) argument inner × (out ≡ around r inner)))

-- the core is normal or `%.0s`, of the same type, and with its padding prints what the directive
-- does
pub record IsReducedTo (model : Model) (s : Specification) (r : Reduced) : Type 0 where
  pub normal : IsNormalCore model r.core
  pub same_type : arg_type model (core_of r.core) ≡ arg_type model s
  pub prints : PrintsReduced model s r
  pub silent : r.core ≡ Silent → (s.conv ≡ S) × (r.zeros ≡ 0) × (r.trail ≡ 0)
  pub few : r.spaces + (r.zeros + r.trail) ≤ MAX_NUMBER

-- what `reduce` returns
pub record IsReduction (model : Model) (s : Specification) (r : Reduced) : Type 0 where
  pub same : IsReducedTo model s r
  pub kept : IsNormal model s → r ≡ itself model s
  pub silent : s ≡ silent → r ≡ record { spaces = 0; zeros = 0; core = Silent; trail = 0 }
