-- What was given of the canonical text of a format in memory, slice by slice. This project's own.
use Rattle.std.specs.Prelude.{◌≡◌, ◌≢◌, ℕ, ◌+◌, ◌-◌, ◌*◌, ◌≤◌, [], ◌++◌, length, take, Bool, MatchBool, Option, Some, None, Result, Ok, Err}
use Rattle.pf_values.specs.declared.limits.TheConstants.{MAX_TEXT_LEN}
use Rattle.pf_values.specs.declared.models.Model.{Model}
use Rattle.pf_values.specs.meaning.Text.{Text}
use Rattle.pf_text.specs.Walks.{IsWalkOver}
use Rattle.pf_text.specs.declared.refusals.Refusal.{Refusal}
use Rattle.pf_text.specs.declared.walk.Walk.{Walk}
use Rattle.pf_canon.specs.declared.limits.TheConstants.{MAX_DIRECTIVE_LEN}
use Rattle.pf_canon.specs.declared.canonical_slices.CanonicalSlices.{CanonicalSlices}
use Rattle.pf_canon.specs.declared.canonical_slices.Place.{Place}
use Rattle.pf_canon.specs.Languages.{Front, HasCanonicalIn, IsWrittenIn, Refuses}
use Rattle.pf_canon.specs.Output.{pending_text}

-- a text up to a place is whole items, and all but those that are held are written in `out`
pub record IsPlaceIn (has_front : Front) (model : Model) (t : Text) (place : Place) (out : Text) : Type 0 where
  pub within : place.at ≤ length t
  pub limit : place.at ≤ MAX_TEXT_LEN
  pub written : IsWrittenIn has_front model (take place.at t) out place.held

-- the bytes that are pending
abbrev pub pending_of : CanonicalSlices → Text
pending_of w = w.bytes.now ++ pending_text w.output

-- A text was taken up to where a walk over it is. That settles what was given, and what is pending.
pub record IsMidway (has_front : Front) (model : Model) (walk : Walk) (held : ℕ) (text settled : Text) : Type 0 where
  pub over : IsWalkOver text walk
  pub within : walk.at ≤ length walk.text.now
  pub written : IsWrittenIn has_front model (take walk.at text) settled held

-- slices were given, by how the text ended, if it did
abbrev pub SlicesHaveGivenBy : Option (Result (Unit {0}) Refusal) → Front → Refuses → Model → Walk → ℕ → Text → Text → Type 0
SlicesHaveGivenBy None has_front refuses model walk held text settled = IsMidway has_front model walk held text settled
SlicesHaveGivenBy (Some (Ok done)) has_front refuses model walk held text settled = HasCanonicalIn has_front model text settled
SlicesHaveGivenBy (Some (Err refusal)) has_front refuses model walk held text settled = refuses model text refusal.kind refusal.at

-- the slices of a text's canonical text have given this
pub record SlicesHaveGiven (has_front : Front) (refuses : Refuses) (model : Model) (w : CanonicalSlices) (text given : Text) : Type 0 where
  pub model_is : w.model ≡ model
  pub text_is : w.text.now ≡ text
  pub by : SlicesHaveGivenBy w.end has_front refuses model w.walk w.held text (given ++ pending_of w)

-- they are the slices of some text
abbrev pub AreSlices : Front → Refuses → CanonicalSlices → Type 0
AreSlices has_front refuses w = (given : Text) × SlicesHaveGiven has_front refuses w.model w w.text.now given

-- The text was taken to its end, and is accepted. If it was at its end before, nothing came after
-- what was pending.
pub record IsTakenWhole (has_front : Front) (model : Model) (w : CanonicalSlices) (text given : Text) : Type 0 where
  pub more : Text
  pub whole : HasCanonicalIn has_front model text (given ++ (pending_of w ++ more))
  pub ended : w.end ≢ None → more ≡ []

-- what is to be taken: bytes, and the end
abbrev pub open_units : Option (Result (Unit {0}) Refusal) → ℕ
open_units None = 1
open_units (Some end) = 0

abbrev pub left_of : CanonicalSlices → ℕ
left_of w = length w.text.now - w.walk.at

abbrev pub to_take : CanonicalSlices → ℕ
to_take w = left_of w + open_units w.end

-- a bound on what is to be given
abbrev pub units_by : Option (Result (Unit {0}) Refusal) → ℕ → ℕ → ℕ
units_by None rest silents = MAX_DIRECTIVE_LEN * rest + 4 * silents
units_by (Some end) rest silents = 0

abbrev pub to_come : CanonicalSlices → ℕ
to_come w = length (pending_of w) + units_by w.end (left_of w) w.held

-- no text that begins so is one that begins so, where nothing follows an empty one
abbrev pub AreApart : Text → Text → Type 0
AreApart t u = (x y : Text) → (t ≡ [] → x ≡ []) → (u ≡ [] → y ≡ []) → t ++ x ≢ u ++ y

-- the slices of both have given equal bytes, and are at their ends, or go on with other bytes
pub record GoInStep (has_front : Front) (refuses : Refuses) (model : Model) (first : CanonicalSlices) (f : Text) (second : CanonicalSlices)
    (g : Text) (is : Bool) : Type 0 where
  pub given : Text
  pub one : SlicesHaveGiven has_front refuses model first f given
  pub two : SlicesHaveGiven has_front refuses model second g given
  pub one_ended : pending_of first ≡ [] → first.end ≢ None
  pub two_ended : pending_of second ≡ [] → second.end ≢ None
  pub so : MatchBool is ((pending_of first ≡ []) × (pending_of second ≡ []))
      (AreApart (pending_of first) (pending_of second))
