-- How many bytes a format prints at least and at most, as a line. This project's own.
use Rattle.std.specs.Prelude.{◌≡◌, ℕ, ◌++◌, Option, Some, None, codes, decimal}
use Rattle.pf_values.specs.declared.models.Model.{Model}
use Rattle.pf_values.specs.meaning.Text.{Text}
use Rattle.pf_bounds.specs.Bounds.{AreBounds}
use Rattle.fmtcanon.specs.Lines.{line}

-- the largest number in decimal, or `unbounded`
abbrev pub greatest_words : Option ℕ → Text
greatest_words None = codes "unbounded"
greatest_words (Some count) = decimal count

-- both numbers, the smallest first
abbrev pub bounds_line : ℕ → Option ℕ → Text
bounds_line least greatest = line (decimal least ++ codes " " ++ greatest_words greatest)

-- the line of the numbers of bytes that an accepted format prints
abbrev pub HasBoundsLine : Model → Text → Text → Type 0
HasBoundsLine model format out = (least : ℕ) × (greatest : Option ℕ)
    × AreBounds model format least greatest × (out ≡ bounds_line least greatest)
