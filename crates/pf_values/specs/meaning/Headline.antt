-- The headline: one meaning, one canonical text. This is the project's own theorem.
use Rattle.std.specs.Prelude.{◌≡◌, ◌↔◌}
use Rattle.pf_values.specs.declared.models.Model.{Model}
use Rattle.pf_values.specs.meaning.Canonical.{IsCanonicalOf}
use Rattle.pf_values.specs.meaning.Printing.{AreEquivalent}
use Rattle.pf_values.specs.meaning.Text.{Text}

-- A text has exactly one canonical text. It takes arguments of the same types as the text, prints
-- the same bytes for all of them, and is its own canonical text.
pub record HasOneCanonical (model : Model) (t : Text) : Type 0 where
  pub canonical : Text
  pub is : IsCanonicalOf model t canonical
  pub only : (other : Text) → IsCanonicalOf model t other → other ≡ canonical
  pub means_the_same : AreEquivalent model t canonical
  pub is_its_own : IsCanonicalOf model canonical canonical

-- Each of two texts has exactly one canonical text. The two texts are equivalent if and only if
-- these canonical texts are equal byte for byte.
pub record HaveOneMeaning (model : Model) (t u : Text) : Type 0 where
  pub first : HasOneCanonical model t
  pub second : HasOneCanonical model u
  pub same : AreEquivalent model t u ↔ (first.canonical ≡ second.canonical)
