-- How arguments match the types of a format.
use Rattle.std.specs.Prelude.{◌≡◌, ℕ, ◌≤◌, List, length, map, take, slice_get, Some}
use Rattle.std.specs.List.{AllZip}
use Rattle.pf_values.specs.declared.models.Model.{Model}
use Rattle.pf_values.specs.declared.types.ArgType.{ArgType}
use Rattle.pf_values.specs.meaning.Arguments.{Argument, HasTypes}
use Rattle.pf_values.specs.meaning.Text.{Text}
use Rattle.pf_text.specs.Signatures as signatures
use Rattle.pf_render.specs.declared.argument_lists.ArgumentCheck.{ArgumentCheck}
use Rattle.pf_render.specs.Rendering.{IsOfTypeBy}

module _ {A : Type 0} (type_of : A → ArgType) (argument_of : A → Argument) where
  -- there is an argument with this number, and it is of a type
  abbrev pub IsOfTypeAt : Model → List A → ℕ → ArgType → Type 0
  IsOfTypeAt model args index type =
      (arg : A) × (slice_get args index ≡ Some arg) × IsOfTypeBy type_of argument_of model arg type

  -- These are the types of a format. The first `matched` arguments are of them, and the next one is
  -- not, unless those are all. This project's own.
  pub record HasChecked (model : Model) (check : ArgumentCheck) (args : List A)
      (types : List ArgType) : Type 0 where
    pub wanted_is : check.wanted ≡ length types
    pub within : check.matched ≤ length types
    pub matching : AllZip (IsOfTypeBy type_of argument_of model) (take check.matched args)
        (take check.matched types)
    pub wrong : (type : ArgType) → slice_get types check.matched ≡ Some type
        → IsOfTypeAt model args check.matched type → ⊥

  -- an accepted text takes just these arguments (C11 7.21.6.1 p2, p9)
  pub record TakesArguments (model : Model) (t : Text) (args : List A) : Type 0 where
    pub takes : signatures.TakesTypes model t (map type_of args)
    pub typed : HasTypes model (map argument_of args) (map type_of args)
