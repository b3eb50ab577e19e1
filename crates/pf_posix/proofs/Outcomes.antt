-- What one more byte makes of a specification that has begun, by what was fetched before: a device of the proofs.
use Rattle.std.specs.Prelude.{ℕ, suc, ◌+◌, ◌*◌, Bool, true, false, nat_lt, ◌==◌, List, Option, Some, None, if◌then◌else◌, ⊤}
use Rattle.pf_values.specs.declared.limits.TheConstants.{MAX_NUMBER}
use Rattle.pf_values.specs.declared.models.Model.{Model}
use Rattle.pf_values.specs.declared.refusals.RefusalKind.{RefusalKind}
use Rattle.pf_values.specs.declared.refusals.RefusalKind.TheVariants.{BadPercent, Mixed, NulByte, TwoTypes, Unexpected, WidthTooLarge}
use Rattle.pf_values.specs.meaning.Text.{percent}
use Rattle.pf_posix.specs.declared.fetches.Fetch.{Fetch}
use Rattle.pf_posix.specs.declared.specifications.Numbering.{Numbering}
use Rattle.pf_posix.specs.declared.specifications.Numbering.TheVariants.{Unnumbered, Numbered}
use Rattle.pf_posix.specs.Defined.{undefined_of}
use Rattle.pf_posix.specs.Items.{errno_letter}
use Rattle.pf_posix.specs.Readings.{conflicts}
use Rattle.pf_posix.specs.Refusals.{Follows, numbering_by, numbering_of}
use Rattle.pf_posix.specs.Specifications.{WholeSpecification}
use Rattle.pf_posix.specs.Types.{conversion_type, fetch, int_type}
use Rattle.pf_posix.proofs.Steps.{Place, State, Opened, First, Flags, Digits, Star, StarDigits, Placed, Point, Modified, Sign, Digit, Dollar, Asterisk, finish}
use Rattle.pf_posix.proofs.Steps.{place_in, position_of, sign_of, step, too_large}

-- what comes of the byte
pub data Outcome : Type 0 where
  -- more of a specification has begun, and this is fetched
  Begins : (state : State) (fetched : Option Fetch) → Outcome
  -- it has ended, and its last argument is fetched
  Ends : (s : WholeSpecification) (last : Fetch) → Outcome
  -- it is `%%` or `%m`
  EndsOther : Outcome
  Refuses : (kind : RefusalKind) → Outcome

-- numbered specifications and others are mixed (POSIX fprintf), by what comes after `%`, a first number, a `*`,
-- or the number of one
abbrev pub mixes_opened : Numbering → Sign → Bool
mixes_opened Numbered (Digit (suc n)) = false
mixes_opened Numbered _ = true
mixes_opened _ sign = false

abbrev pub mixes_first : Numbering → Sign → Bool
mixes_first Unnumbered Dollar = true
mixes_first Numbered (Digit n) = false
mixes_first Numbered Dollar = false
mixes_first Numbered _ = true
mixes_first _ sign = false

abbrev pub mixes_star : Option ℕ → Sign → Bool
mixes_star None (Digit n) = true
mixes_star (Some m) (Digit (suc n)) = false
mixes_star (Some m) _ = true
mixes_star None _ = false

abbrev pub mixes_star_digits : Sign → Bool
mixes_star_digits (Digit n) = false
mixes_star_digits Dollar = false
mixes_star_digits _ = true

abbrev pub mixes : State → Numbering → Sign → Bool
mixes Opened numbering sign = mixes_opened numbering sign
mixes (First n) numbering sign = mixes_first numbering sign
mixes (Star place) numbering sign = mixes_star (position_of place) sign
mixes (StarDigits place n) numbering sign = mixes_star_digits sign
mixes _ numbering sign = false

-- a number passes the limit
abbrev pub passes : RefusalKind → ℕ → ℕ → Option RefusalKind
passes kind n digit = if nat_lt MAX_NUMBER (10 * n + digit) then Some kind else None

abbrev pub exceeds_by : State → ℕ → Option RefusalKind
exceeds_by (First n) digit = passes WidthTooLarge n digit
exceeds_by (Digits place n) digit = passes (too_large place) n digit
exceeds_by (StarDigits place n) digit = passes (too_large place) n digit
exceeds_by _ digit = None

abbrev pub exceeds : State → Sign → Option RefusalKind
exceeds state (Digit n) = exceeds_by state n
exceeds state _ = None

-- a `*` of a specification that isn't numbered fetches its argument, another one's number does
abbrev pub star_fetch : Option ℕ → Option Fetch
star_fetch None = Some (fetch None int_type)
star_fetch (Some n) = None

abbrev pub star_fetched : Option Place → Option Fetch
star_fetched None = None
star_fetched (Some place) = star_fetch (position_of place)

abbrev pub dollar_fetched : State → Option Fetch
dollar_fetched (StarDigits place n) = Some (fetch (Some n) int_type)
dollar_fetched _ = None

abbrev pub fetched_on : Sign → State → Option Fetch
fetched_on Asterisk state = star_fetched (place_in state)
fetched_on Dollar state = dollar_fetched state
fetched_on _ state = None

-- no argument has two types
abbrev pub begun : List Fetch → State → Option Fetch → Outcome
begun fetches to None = Begins to None
begun fetches to (Some f) = if conflicts fetches f then Refuses TwoTypes else Begins to (Some f)

abbrev pub last_fetch : Model → WholeSpecification → Fetch
last_fetch model s = fetch s.position (conversion_type model s.modifier s.conversion)

abbrev pub ended : Model → List Fetch → WholeSpecification → Option RefusalKind → Outcome
ended model fetches s (Some kind) = Refuses kind
ended model fetches s None =
    if conflicts fetches (last_fetch model s) then Refuses TwoTypes else Ends s (last_fetch model s)

abbrev pub finished : Model → List Fetch → Option WholeSpecification → Outcome
finished model fetches None = Refuses Unexpected
finished model fetches (Some s) = ended model fetches s (undefined_of s)

abbrev pub stepped : Model → List Fetch → State → Sign → Option State → Outcome
stepped model fetches state sign (Some to) = begun fetches to (fetched_on sign state)
stepped model fetches state sign None = finished model fetches (finish state sign)

abbrev pub within : Model → List Fetch → State → Sign → Option RefusalKind → Outcome
within model fetches state sign (Some kind) = Refuses kind
within model fetches state sign None = stepped model fetches state sign (step state sign)

abbrev pub by_sign : Model → List Fetch → State → Sign → Outcome
by_sign model fetches state sign =
    if mixes state (numbering_of fetches) sign then Refuses Mixed else
    within model fetches state sign (exceeds state sign)

abbrev pub on_percent : State → Outcome
on_percent Opened = EndsOther
on_percent _ = Refuses BadPercent

-- `%m` ends with the byte
abbrev pub ends_errno : State → ℕ → Bool
ends_errno Opened byte = byte == errno_letter
ends_errno _ byte = false

abbrev pub outcome : Model → List Fetch → State → ℕ → Outcome
outcome model fetches state byte =
    if byte == 0 then Refuses NulByte else
    if byte == percent then on_percent state else
    if ends_errno state byte then EndsOther else
    by_sign model fetches state (sign_of byte)

-- where it shows whether the specification is numbered, it may follow others of a numbering
abbrev pub MayGoOn : Numbering → State → Type 0
MayGoOn numbering Opened = ⊤
MayGoOn numbering (First n) = ⊤
MayGoOn numbering (Flags position set) = Follows numbering (Some (numbering_by position))
MayGoOn numbering (Digits place n) = Follows numbering (Some (numbering_by (position_of place)))
MayGoOn numbering (Star place) = Follows numbering (Some (numbering_by (position_of place)))
MayGoOn numbering (StarDigits place n) = Follows numbering (Some (numbering_by (position_of place)))
MayGoOn numbering (Placed place n) = Follows numbering (Some (numbering_by (position_of place)))
MayGoOn numbering (Point position set width) = Follows numbering (Some (numbering_by position))
MayGoOn numbering (Modified numbers modifier) = Follows numbering (Some (numbering_by numbers.position))
