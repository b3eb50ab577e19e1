-- What the call about the bytes that a format prints answers. This project's own.
use Rattle.std.specs.Prelude.{◌≡◌, ◌⊎◌, ℕ, ℤ, pos, min, Option, Some, None}
use Rattle.pf_bounds.specs.Bounds.{AreBounds}
use Rattle.pf_text.specs.declared.refusals.Side.TheVariants.{First}
use Rattle.pf_values.specs.declared.models.Model.{Model}
use Rattle.pf_values.specs.meaning.Text.{Text}
use Rattle.fmtcanon_c.specs.declared.byte_counts.CBounds.{CBounds}
use Rattle.fmtcanon_c.specs.declared.byte_counts.TheConstants.{MOST, UNBOUNDED}
use Rattle.fmtcanon_c.specs.declared.interface.CError.{CError}
use Rattle.fmtcanon_c.specs.Errors.{IsRefusedBy}

-- a number, or the largest that has room
abbrev pub limited : ℕ → ℕ
limited n = min n MOST

-- the largest number, or the number for none
abbrev pub limited_or_none : Option ℕ → ℕ
limited_or_none None = UNBOUNDED
limited_or_none (Some n) = limited n

-- 0 is answered and the numbers are put; or the text is rejected, and they are as they were
abbrev pub PutsBounds : Model → Text → CBounds → CError → ℤ → CBounds → CError → Type 0
PutsBounds model t bounds error code bounds_now error_now =
    ((least : ℕ) × (greatest : Option ℕ) × AreBounds model t least greatest × (code ≡ pos 0)
    × (bounds_now.least ≡ limited least) × (bounds_now.greatest ≡ limited_or_none greatest)
    × (error_now ≡ error))
    ⊎ ((bounds_now ≡ bounds) × IsRefusedBy First t code error_now)
