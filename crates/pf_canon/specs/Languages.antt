-- Texts of a language that has more items than the profile. This project's own.
use Rattle.std.specs.Prelude.{◌≡◌, ◌↔◌, ℕ, Bool, ◌*◌, ◌≤◌, List, [], ◌++◌, ◌≢◌, length, IsTrue}
use Rattle.pf_values.specs.declared.limits.TheConstants.{MAX_TEXT_LEN}
use Rattle.pf_values.specs.declared.models.Model.{Model}
use Rattle.pf_values.specs.declared.refusals.RefusalKind.{RefusalKind}
use Rattle.pf_values.specs.meaning.Canonical.{IsCanonicalOf}
use Rattle.pf_values.specs.meaning.Items.{Item, Reads}
use Rattle.pf_values.specs.meaning.Text.{Text}
use Rattle.pf_text.specs.Refusals.{RefusesOne}
use Rattle.pf_text.specs.Walks.{AreRead, Either, IsMadeOf}
use Rattle.pf_text.specs.declared.refusals.Refusal.{Refusal}
use Rattle.pf_text.specs.declared.refusals.Side.{Side}
use Rattle.pf_text.specs.declared.refusals.TextFault.{TextFault}
use Rattle.pf_text.specs.declared.refusals.TextFault.TheVariants.{Refused, Memory}
use Rattle.pf_canon.specs.Answers.{IsCanonicalFor}
use Rattle.pf_canon.specs.Making.{IsWritten}
use Rattle.pf_canon.specs.declared.limits.TheConstants.{MAX_DIRECTIVE_LEN}

-- What a language says of a front of a text, which is empty or ends with an item that the profile lacks:
-- it has this canonical text.
abbrev pub Front : Type 1
Front = Model → Text → Text → Type 0

-- where and why a text is rejected
abbrev pub Refuses : Type 1
Refuses = Model → Text → RefusalKind → ℕ → Type 0

-- a text is such a front, and a stretch, that is, items of the profile; `c` is its canonical text
pub record HasCanonicalIn (has_front : Front) (model : Model) (t c : Text) : Type 0 where
  pub front : Text
  pub last : Text
  pub out : Text
  pub own : Text
  pub split : t ≡ front ++ last
  pub begins : has_front model front out
  pub ends : IsCanonicalFor model last own
  pub whole : c ≡ out ++ own
  pub limit : length t ≤ MAX_TEXT_LEN
  pub few : length out ≤ MAX_DIRECTIVE_LEN * length front

-- The same, where the last `held` silent directives of the stretch aren't written yet. The text may go on.
pub record IsWrittenIn (has_front : Front) (model : Model) (t out : Text) (held : ℕ) : Type 0 where
  pub front : Text
  pub last : Text
  pub before : Text
  pub own : Text
  pub split : t ≡ front ++ last
  pub begins : has_front model front before
  pub ends : IsWritten model last own held
  pub whole : out ≡ before ++ own
  pub few : length before ≤ MAX_DIRECTIVE_LEN * length front

-- after a text come items of the profile and what passes: the canonical text begins with these bytes
abbrev pub GoesOnIn : Front → (Text → Type 0) → Model → Text → Text → Type 0
GoesOnIn has_front passes model t out = (u : Text) → IsMadeOf (Either AreRead passes) u → length (t ++ u) ≤ MAX_TEXT_LEN
    → (more : Text) × HasCanonicalIn has_front model (t ++ u) (out ++ more)

-- a stretch comes after a text that is written, and these bytes complete the canonical text
abbrev pub CompletesIn : Front → Model → Text → Text → Type 0
CompletesIn has_front model t more = (before out : Text) → IsWrittenIn has_front model before out 0
    → length (before ++ t) ≤ MAX_TEXT_LEN → HasCanonicalIn has_front model (before ++ t) (out ++ more)

-- what passes comes as it is after a front and a stretch
abbrev pub ComesVerbatim : Front → (Text → Type 0) → Model → Type 0
ComesVerbatim has_front passes model = (front out last own passed : Text) (items : List Item) → has_front model front out
    → Reads last items → IsCanonicalOf model last own → passes passed
    → has_front model ((front ++ last) ++ passed) ((out ++ own) ++ passed)

-- a text has a canonical text
abbrev pub IsAcceptedIn : Front → Model → Text → Type 0
IsAcceptedIn has_front model t = (c : Text) × HasCanonicalIn has_front model t c

-- why there is none
abbrev pub FaultIn : Front → Refuses → Model → Text → TextFault → Type 0
FaultIn has_front refuses model t (Refused refusal) = refuses model t refusal.kind refusal.at
FaultIn has_front refuses model t Memory = (c : Text) × HasCanonicalIn has_front model t c × (c ≢ [])

-- whether an accepted text is canonical
abbrev pub DecidesIn : Front → Model → Text → Bool → Type 0
DecidesIn has_front model t is = (c : Text) × HasCanonicalIn has_front model t c × (IsTrue is ↔ (c ≡ t))

-- two texts are accepted, and this is whether they have one canonical text
pub record AreSameIn (has_front : Front) (model : Model) (t u : Text) (is : Bool) : Type 0 where
  pub first : Text
  pub second : Text
  pub of_first : HasCanonicalIn has_front model t first
  pub of_second : HasCanonicalIn has_front model u second
  pub one : IsTrue is ↔ (first ≡ second)

-- the first is rejected, or the first is accepted and the second rejected
abbrev pub StopsIn : Front → Refuses → Model → Text → Text → Side × Refusal → Type 0
StopsIn has_front refuses model t u stop =
    RefusesOne (IsAcceptedIn has_front model) (refuses model) t u stop.0 stop.1
