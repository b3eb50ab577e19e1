-- The calls of a text, one after another, as the code finds them.
use Rattle.std.specs.Prelude.{◌≡◌, ◌<◌, ◌≤◌, ℕ, ◌+◌, List, length, drop, MatchOption, Option, Some, None, ⊤}
use Rattle.pf_values.specs.declared.models.Model.{Model}
use Rattle.pf_values.specs.meaning.Items.{Item, types}
use Rattle.pf_values.specs.meaning.Text.{Text}
use Rattle.pf_posix.specs.Opaque.{OpaqueItem}
use Rattle.pf_posix.specs.Stretches.{Stretches, Last, Before, ReadsStretches, types_of_opaque}
use Rattle.pf_whole.specs.declared.calls.PlacedOpaque.{PlacedOpaque}
use Rattle.pf_whole.specs.declared.calls.Rest.{Rest}
use Rattle.pf_whole.specs.Answers.{CallsDifferAt}
use Rattle.pf_whole.specs.meaning.Traces.{placed_calls}
use Rattle.pf_posix.specs.OpaqueParts.{item_of_opaque}

-- the first call of what is left of a text, and what is left after it
pub record IsCallNext (model : Model) (t : Text) (items : List Item) (other : OpaqueItem) (later : Stretches)
    (rest : Rest) (call : PlacedOpaque) (after : Rest) : Type 0 where
  pub index_is : call.index ≡ rest.index + length (types model items)
  pub item_is : item_of_opaque call.opaque ≡ other
  pub reads : ReadsStretches (drop after.at t) later
  pub after_is : after.index ≡ rest.index + length (types model items) + length (types_of_opaque model other)
  pub further : rest.at < after.at
  pub within : after.at ≤ length t
  pub few : after.index ≤ after.at

-- these stretches are left: their first call comes next, or they make none
abbrev pub IsNextCall : Model → Text → Stretches → Rest → Option (PlacedOpaque × Rest) → Type 0
IsNextCall model t (Last items) rest None = ⊤
IsNextCall model t (Last items) rest (Some next) = ⊥
IsNextCall model t (Before items other later) rest None = ⊥
IsNextCall model t (Before items other later) rest (Some next) = IsCallNext model t items other later rest next.0 next.1

-- the place at which the calls of two texts differ first, or that there is none
abbrev pub CallsDiffer : Model → Text → Text → Option ℕ → Type 0
CallsDiffer model t u found = (a b : Stretches) → ReadsStretches t a → ReadsStretches u b
    → MatchOption found (placed_calls model 0 a ≡ placed_calls model 0 b)
    (CallsDifferAt (placed_calls model 0 a) (placed_calls model 0 b))
