-- What the profile lacks and needs no change in any data model. This project's own.
use Rattle.std.specs.Prelude.{◌≡◌, ℕ, ◌<◌, ◌≤◌, ◌⊎◌, ⊤, Option, Some, None, true}
use Rattle.pf_values.specs.declared.flags.Flag.TheVariants.{Minus}
use Rattle.pf_values.specs.declared.flags.FlagSet.{FlagSet}
use Rattle.pf_values.specs.declared.limits.TheConstants.{MAX_NUMBER}
use Rattle.pf_values.specs.declared.models.Model.{Model}
use Rattle.pf_values.specs.meaning.Flags.{no_flags, with_flag}
use Rattle.pf_values.specs.meaning.Text.{Text}
use Rattle.pf_text.specs.Offsets.{HasBytes}
use Rattle.pf_posix.specs.Defined.{IsWholeDefined}
use Rattle.pf_posix.specs.Opaque.{OpaqueItem, SpellsOpaqueItem, is_opaque}
use Rattle.pf_posix.specs.OpaqueParts.{parts_of_opaque}
use Rattle.pf_posix.specs.Specifications.{Amount, Given, Fetched, WholeSpecification}
use Rattle.pf_posix.specs.declared.opaque_directives.OpaqueDirective.{OpaqueDirective}
use Rattle.pf_whole.specs.meaning.NormalSpellings.{normal_parts, normal_spelling, whole_spelling_of}

-- the text spells it, and is its normal spelling in each data model
abbrev pub IsOwnSpelling : Text → Type 0
IsOwnSpelling t = (other : OpaqueItem) × SpellsOpaqueItem t other × ((model : Model) → normal_spelling model other ≡ t)

-- a width and a precision that can be spelled without the number of an argument
abbrev pub CanBeWidth : Option Amount → Type 0
CanBeWidth None = ⊤
CanBeWidth (Some (Given n)) = (0 < n) × (n ≤ MAX_NUMBER)
CanBeWidth (Some (Fetched number)) = number ≡ None

abbrev pub CanBePrecision : Option Amount → Type 0
CanBePrecision None = ⊤
CanBePrecision (Some (Given n)) = n ≤ MAX_NUMBER
CanBePrecision (Some (Fetched number)) = number ≡ None

-- no flag but `-`
abbrev pub HasFewFlags : FlagSet → Type 0
HasFewFlags flags = (flags ≡ no_flags) ⊎ (flags ≡ with_flag no_flags Minus)

-- the parts of a specification are spelled in the one way from one offset up to another
pub record IsPlainAt (t : Text) (at : ℕ) (directive : OpaqueDirective) (stop : ℕ) : Type 0 where
  pub bytes : HasBytes t at stop (whole_spelling_of (parts_of_opaque directive))
  pub flags : HasFewFlags directive.flags
  pub width : CanBeWidth (parts_of_opaque directive).width
  pub precision : CanBePrecision (parts_of_opaque directive).precision

-- the profile lacks it, the standards define it, and its parts are normal in each data model
pub record IsOwnNormalForm (s : WholeSpecification) : Type 0 where
  pub opaque : is_opaque s ≡ true
  pub defined : IsWholeDefined s
  pub normal : (model : Model) → normal_parts model s ≡ s
