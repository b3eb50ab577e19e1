-- Texts in parts. This project's own.
use Rattle.std.specs.Prelude.{ℕ, List, flat_map}
use Rattle.std.specs.Borrow.{Bor}
use Rattle.pf_values.specs.meaning.Text.{Text}

-- the text of the parts, one after another
abbrev pub join : List (Bor (List ℕ)) → Text
join parts = flat_map (λ part. part.now) parts
