-- Canonical texts of the whole language. They are this project's own: the standard has no canonical
-- form.
use Rattle.std.specs.Prelude.{◌≡◌, List, ◌++◌}
use Rattle.pf_values.specs.declared.models.Model.{Model}
use Rattle.pf_values.specs.meaning.Canonical.{ReadsCanonically}
use Rattle.pf_values.specs.meaning.Items.{Item}
use Rattle.pf_values.specs.meaning.Printing.{PrintAlike}
use Rattle.pf_values.specs.meaning.Text.{Text}
use Rattle.pf_posix.specs.Stretches.{Stretches, Last, Before, ReadsStretches}
use Rattle.pf_whole.specs.meaning.NormalSpellings.{normal_spelling}

-- The canonical text of a stretch, taken as a format of its own: a canonical text of the profile
-- whose items print alike.
pub record IsCanonicalStretch (model : Model) (items : List Item) (c : Text) : Type 0 where
  pub own : List Item
  pub canonical : ReadsCanonically model c own
  pub alike : PrintAlike model items own

-- The canonical texts of the stretches and the normal spellings of what is between them, in order.
abbrev pub IsPutTogether : Model → Stretches → Text → Type 0
IsPutTogether model (Last items) c = IsCanonicalStretch model items c
IsPutTogether model (Before items other rest) c =
    (first back : Text) × IsCanonicalStretch model items first × IsPutTogether model rest back
    × (c ≡ first ++ normal_spelling model other ++ back)

-- `c` is the canonical text of `t`: it replaces each stretch of `t` by its canonical text, and each
-- opaque directive by its normal spelling. It keeps `%m`.
pub record IsWholeCanonicalOf (model : Model) (t c : Text) : Type 0 where
  pub stretches : Stretches
  pub reads : ReadsStretches t stretches
  pub together : IsPutTogether model stretches c
