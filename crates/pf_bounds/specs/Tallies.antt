-- Bounds in 64 bits. This project's own.
use Rattle.std.specs.Prelude.{ℕ, ◌+◌, ◌≤◌, List, length, Option, Some, None, if◌then◌else◌}
use Rattle.pf_values.specs.declared.models.Model.{Model}
use Rattle.pf_values.specs.meaning.Items.{Item, Reads}
use Rattle.pf_values.specs.meaning.Text.{Text}
use Rattle.pf_bounds.specs.Bounds.{AreBoundsOf, CanPrintAll}
use Rattle.pf_bounds.specs.FieldLengths.{limit_of}
use Rattle.pf_bounds.specs.declared.tallies.Tally.{Tally}

-- the largest number, if there is one
abbrev pub largest_of : Tally → Option ℕ
largest_of tally = if tally.is_bounded then Some (tally.least + tally.spread) else None

-- neither number is too large for a text of this length
pub record IsShort (tally : Tally) (len : ℕ) : Type 0 where
  pub least_is : tally.least ≤ limit_of len
  pub spread_is : tally.spread ≤ limit_of len

-- a text is read, however long it is, and these are its bounds
pub record IsTallied (model : Model) (t : Text) (tally : Tally) : Type 0 where
  pub items : List Item
  pub reads : Reads t items
  pub bounds : AreBoundsOf (CanPrintAll model items) tally.least (largest_of tally)
  pub short : IsShort tally (length t)
