-- Two formats compared by the lists of their types, as the code does it. No public contract names these.
use Rattle.std.specs.Prelude.{◌≡◌, ℕ, suc, zero, ◌≤◌, List, [], ◌∷◌, ◌++◌, drop, length, ◌⊎◌}
use Rattle.pf_values.specs.declared.models.Model.{Model}
use Rattle.pf_values.specs.meaning.Text.{Text}
use Rattle.pf_posix.specs.declared.comparison.TypeComparison.{TypeComparison}
use Rattle.pf_posix.specs.declared.numbered.TheConstants.{ROOM}
use Rattle.pf_posix.specs.declared.types.WholeArgType.{WholeArgType}
use Rattle.pf_posix.specs.declared.types_in_order.TypesInOrder.{TypesInOrder}
use Rattle.pf_posix.specs.Items.{HasArguments, WholeItem, ReadsWhole, fetched}
use Rattle.pf_posix.specs.Laws.{IsFirstDifference}
use Rattle.pf_posix.specs.Readings.{wanted_types}
use Rattle.pf_posix.specs.Types.{int_type}

-- if neither text is rejected, one has no more arguments than a numbered one can have
abbrev pub AreFew : Model → Text → Text → Type 0
AreFew model first second = (types others : List WholeArgType)
    → HasArguments model first types → HasArguments model second others
    → (length types ≤ ROOM) ⊎ (length others ≤ ROOM)

-- two texts are accepted, and these are the numbers of their arguments
pub record AreCounted (model : Model) (first second : Text) (count second_count : ℕ) : Type 0 where
  pub types : List WholeArgType
  pub others : List WholeArgType
  pub first_accepted : HasArguments model first types
  pub second_accepted : HasArguments model second others
  pub count_is : count ≡ length types
  pub second_count_is : second_count ≡ length others

-- two texts are accepted, and this is where their types differ, and how many the second has
pub record IsListComparison (model : Model) (first second : Text) (found : TypeComparison) : Type 0 where
  pub types : List WholeArgType
  pub others : List WholeArgType
  pub first_accepted : HasArguments model first types
  pub second_accepted : HasArguments model second others
  pub difference : IsFirstDifference types others found.difference
  pub count_is : found.second_count ≡ length others

-- types of this number: all but the last are ints
abbrev pub ints_up_to : ℕ → WholeArgType → List WholeArgType
ints_up_to zero last = []
ints_up_to (suc zero) last = last ∷ []
ints_up_to (suc (suc n)) last = int_type ∷ ints_up_to (suc n) last

-- these types are left: those of the last specification, and those of the items after it
pub record HasLeft (model : Model) (order : TypesInOrder) (types : List WholeArgType) : Type 0 where
  pub within : order.at ≤ length order.text.now
  pub items : List WholeItem
  pub reads : ReadsWhole (drop order.at order.text.now) items
  pub types_are : types ≡ ints_up_to order.left order.last ++ wanted_types (fetched model items)
