-- The bytes at the front of a format that need no change. This project's own.
use Rattle.std.specs.Prelude.{◌≤◌, length}
use Rattle.pf_values.specs.declared.models.Model.{Model}
use Rattle.pf_values.specs.meaning.Text.{Text}
use Rattle.pf_text.specs.Walks.{IsWalkOver}
use Rattle.pf_canon.specs.ChangedDirectives.{between}
use Rattle.pf_canon.specs.Languages.{Front, IsWrittenIn}
use Rattle.pf_canon.specs.Making.{IsBetweenRuns, IsVerbatimAfter}
use Rattle.pf_canon.specs.declared.verbatim_front.VerbatimFront.{VerbatimFront}

-- the data model in which they are verbatim
abbrev pub front_model : VerbatimFront → Model
front_model front = front.model

-- the front is this text's, in a language
pub record IsVerbatimFront (has_front : Front) (text : Text) (front : VerbatimFront) : Type 0 where
  pub over : IsWalkOver text front.walk
  pub within : front.walk.at ≤ length front.walk.text.now
  pub verbatim : IsVerbatimAfter (IsWrittenIn has_front front.model) 0 (between 0 front.walk.at front.walk.text.now)
  pub next : IsBetweenRuns front.walk.text.now front.walk.at
