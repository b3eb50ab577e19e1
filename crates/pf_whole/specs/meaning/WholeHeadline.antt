-- The headline of the whole language: one trace, one canonical text. This is the project's own
-- theorem.
use Rattle.std.specs.Prelude.{◌≡◌, ◌↔◌}
use Rattle.pf_values.specs.declared.models.Model.{Model}
use Rattle.pf_values.specs.meaning.Text.{Text}
use Rattle.pf_posix.specs.Stretches.{IsUnnumberedAccepted}
use Rattle.pf_whole.specs.meaning.Traces.{AreWholeAlike}
use Rattle.pf_whole.specs.meaning.WholeCanonical.{IsWholeCanonicalOf}

-- A text has exactly one canonical text, which is alike to it, and is its own canonical text.
pub record HasOneWholeCanonical (model : Model) (t : Text) : Type 0 where
  pub canonical : Text
  pub is : IsWholeCanonicalOf model t canonical
  pub only : (other : Text) → IsWholeCanonicalOf model t other → other ≡ canonical
  pub means_the_same : AreWholeAlike model t canonical
  pub is_its_own : IsWholeCanonicalOf model canonical canonical

-- Each of two texts has exactly one canonical text. The two texts are alike if and only if these
-- canonical texts are equal byte for byte.
pub record HaveOneWholeMeaning (model : Model) (t u : Text) : Type 0 where
  pub first : HasOneWholeCanonical model t
  pub second : HasOneWholeCanonical model u
  pub same : AreWholeAlike model t u ↔ (first.canonical ≡ second.canonical)

-- The headline of the whole language: this holds for every two accepted texts.
abbrev pub WholeHeadline : Model → Type 0
WholeHeadline model = (t u : Text) → IsUnnumberedAccepted t → IsUnnumberedAccepted u
    → HaveOneWholeMeaning model t u
