-- What the laws say: one text for each directive and argument, and tables with each value once.
use Rattle.std.specs.Prelude.{◌≡◌, ◌++◌, ◌∷◌, List}
use Rattle.std.specs.List.{Contains}
use Rattle.pf_values.specs.declared.models.Model.{Model}
use Rattle.pf_values.specs.meaning.Arguments.{Argument, HasType}
use Rattle.pf_values.specs.meaning.DataModel.{arg_type}
use Rattle.pf_values.specs.meaning.Printing.{Prints}
use Rattle.pf_values.specs.meaning.Specification.{Specification}
use Rattle.pf_values.specs.meaning.Text.{Text}

-- a directive prints this text for an argument, and no other
abbrev pub PrintsOnly : Model → Specification → Argument → Text → Type 0
PrintsOnly model s argument out = Prints model s argument out
    × ((other : Text) → Prints model s argument other → other ≡ out)

-- a directive and an argument of its type print one text
abbrev pub PrintsOnce : Model → Type 0
PrintsOnce model =
    (s : Specification) (argument : Argument) → HasType model argument (arg_type model s)
    → (out : Text) × PrintsOnly model s argument out

-- a value is at one index of a list and at no other; this project's own
pub record OccursOnce {A : Type 0} (all : List A) (v : A) : Type 0 where
  pub before : List A
  pub after : List A
  pub there : all ≡ before ++ (v ∷ after)
  pub nowhere_else : ¬ Contains (before ++ after) v

-- each value of the type is
abbrev pub HasEachOnce : {A : Type 0} → List A → Type 0
HasEachOnce {A} all = (v : A) → OccursOnce all v
