-- The first bytes of a text of the whole language, and what they have as their canonical text.
use Rattle.std.specs.Prelude.{[], ◌++◌}
use Rattle.pf_values.specs.declared.models.Model.{Model}
use Rattle.pf_values.specs.meaning.Text.{Text}
use Rattle.pf_posix.specs.Stretches.{Stretches, ReadsStretches}
use Rattle.pf_whole.specs.meaning.WholeCanonical.{IsPutTogether}

-- a front is empty, or ends with an opaque directive or `%m`: whatever stretches come after it, `out` comes before their
-- canonical text in that of the whole
pub record IsWholeFront (model : Model) (front out : Text) : Type 0 where
  pub continues : (rest : Text) (left : Stretches) → ReadsStretches rest left → (whole : Stretches) × ReadsStretches (front ++ rest) whole
      × ((back : Text) → IsPutTogether model left back → IsPutTogether model whole (out ++ back))

pub no_front : (model : Model) → IsWholeFront model [] []
no_front model = record { continues = λ rest left h. (left, h, λ back together. together) }
