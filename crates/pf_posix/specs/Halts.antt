-- At which byte a specification is rejected, and why, as the code reads it part by part. A public contract
-- names `IsStrayAt`.
use Rattle.std.specs.Prelude.{◌≡◌, ℕ, ◌-◌, ◌<◌, ◌≤◌, Bool, true, false, List, [], ◌∷◌, ◌++◌, drop, get_or, is_some, length, Option, Some, None, ◌⊎◌, ◌==◌, if◌then◌else◌, ⊤}
use Rattle.pf_values.specs.declared.flags.FlagSet.{FlagSet}
use Rattle.pf_values.specs.declared.models.Model.{Model}
use Rattle.pf_values.specs.declared.refusals.RefusalKind.{RefusalKind}
use Rattle.pf_values.specs.declared.refusals.RefusalKind.TheVariants.{AltUndefined, BadPercent, CountUndefined, GroupUndefined, LengthUndefined, NulByte, PrecisionUndefined, Truncated, ZeroUndefined}
use Rattle.pf_values.specs.meaning.Text.{Text, dollar, percent, point, star}
use Rattle.pf_text.specs.Offsets.{HasBytes}
use Rattle.pf_text.specs.declared.refusals.Refusal.{Refusal}
use Rattle.pf_posix.specs.declared.fetches.Fetch.{Fetch}
use Rattle.pf_posix.specs.declared.specifications.Numbering.{Numbering}
use Rattle.pf_posix.specs.declared.specifications.Refused.{Refused}
use Rattle.pf_posix.specs.declared.specifications.Specification.{Specification}
use Rattle.pf_posix.specs.declared.specifications.Stars.{Stars}
use Rattle.pf_posix.specs.declared.specification_spans.PartOffsets.{PartOffsets}
use Rattle.pf_posix.specs.declared.types.WholeArgType.{WholeArgType}
use Rattle.pf_posix.specs.Beginnings.{EndsInStarDigits, IsBegunAs, IsUndecided, TakesAmount}
use Rattle.pf_posix.specs.Defined.{IsWholeDefined}
use Rattle.pf_posix.specs.PartsInText.{IsSpecificationAt, specification_read}
use Rattle.pf_posix.specs.Refusals.{Follows, IsWholeRefusedByte, numbering_by, numbering_of}
use Rattle.pf_posix.specs.SpecificationSpans.{AreWholePartsAt}
use Rattle.pf_posix.specs.Specifications.{Amount, WholeSpecification}
use Rattle.pf_posix.specs.Spelling.{SpellsWhole, SpellsUpToFlags, SpellsUpToWidth}
use Rattle.pf_posix.specs.Types.{fetch, int_type, star_fetches}

-- why a byte is rejected where it isn't allowed: NUL and `%` have kinds of their own
abbrev pub stray : ℕ → RefusalKind → RefusalKind
stray byte kind = if byte == 0 then NulByte else if byte == percent then BadPercent else kind

-- a text is rejected at an offset because its byte isn't allowed there, or because it ends
pub record IsStrayAt (t : Text) (at : ℕ) (kind : RefusalKind) (refusal : Refusal) : Type 0 where
  pub at_is : refusal.at ≡ at
  pub inside : at < length t → refusal.kind ≡ stray (get_or t at 0) kind
  pub ended : length t ≤ at → refusal.kind ≡ Truncated

-- a specification with this number of its argument, or without one, may follow others of a numbering
abbrev pub FollowsBy : Numbering → Option ℕ → Type 0
FollowsBy numbering position = Follows numbering (Some (numbering_by position))

-- The text from an offset on begins a specification, which has fetched this, up to where it is rejected, after
-- specifications of a numbering.
pub record IsHalt (t : Text) (start : ℕ) (numbering : Numbering) (position : Option ℕ) (own : List Fetch)
    (refusal : Refusal) : Type 0 where
  pub part : Text
  pub bytes : HasBytes t start refusal.at part
  pub begun : IsBegunAs part position own
  pub follows : IsUndecided part ⊎ FollowsBy numbering position
  pub ended : length t ≤ refusal.at → refusal.kind ≡ Truncated
  pub byte : refusal.at < length t → (model : Model) (fetches : List Fetch)
      → (own ≡ [] → numbering_of fetches ≡ numbering)
      → IsUndecided part ⊎ FollowsBy (numbering_of fetches) position
      → IsWholeRefusedByte model fetches part (get_or t refusal.at 0) refusal.kind

-- so it does, and a numbered specification has fetched no more than this
abbrev pub Halts : Text → ℕ → Numbering → Option ℕ → List Fetch → Refusal → Type 0
Halts t start numbering position own refusal = (now : List Fetch)
    × IsHalt t start numbering position now refusal × (is_some position ≡ true → now ≡ own)

-- no defined specification begins a text that may follow others of a numbering
abbrev pub BeginsNoneAfter : Numbering → Text → Type 0
BeginsNoneAfter numbering t = (text rest : Text) (s : WholeSpecification) → SpellsWhole text s
    → t ≡ text ++ rest → FollowsBy numbering s.position → IsWholeDefined s → ⊥

-- nor does one that isn't
abbrev pub BeginsNoAfter : Numbering → Text → Type 0
BeginsNoAfter numbering t = (text rest : Text) (s : WholeSpecification) → SpellsWhole text s
    → t ≡ text ++ rest → FollowsBy numbering s.position → ⊥

-- kinds of refusals for parts that aren't defined together
abbrev pub is_of_combination : RefusalKind → Bool
is_of_combination AltUndefined = true
is_of_combination ZeroUndefined = true
is_of_combination GroupUndefined = true
is_of_combination PrecisionUndefined = true
is_of_combination LengthUndefined = true
is_of_combination CountUndefined = true
is_of_combination _ = false

-- so the text halts after its `%`
abbrev pub HaltsAtPosition : Text → ℕ → Numbering → Refusal → Type 0
HaltsAtPosition t start numbering refusal = (begin : ℕ) → HasBytes t begin start (percent ∷ [])
    → IsHalt t begin numbering None [] refusal

-- after the flags
abbrev pub HaltsAtWidth : Text → ℕ → Option ℕ → Refusal → Type 0
HaltsAtWidth t start position refusal = (begin : ℕ) (numbering : Numbering) (before : Text) (set : FlagSet)
    → HasBytes t begin start before → SpellsUpToFlags before position set → FollowsBy numbering position
    → Halts t begin numbering position [] refusal

-- after a `*`; the kind is the one for a number above the limit there
abbrev pub HaltsAtStar : Text → ℕ → Option ℕ → RefusalKind → Refusal → Type 0
HaltsAtStar t start position too_large refusal = (begin : ℕ) (numbering : Numbering) (before : Text) (own : List Fetch)
    → HasBytes t begin start (before ++ star ∷ []) → TakesAmount too_large before position own
    → FollowsBy numbering position → Halts t begin numbering position own refusal

-- after the width
abbrev pub HaltsAtPrecision : Text → ℕ → Option ℕ → Refusal → Type 0
HaltsAtPrecision t start position refusal = (begin : ℕ) (numbering : Numbering) (before : Text) (set : FlagSet)
    (width : Option Amount) → HasBytes t begin start before → SpellsUpToWidth before position set width
    → FollowsBy numbering position → Halts t begin numbering position (star_fetches width) refusal

-- after the point of a precision
abbrev pub HaltsAtPoint : Text → ℕ → Option ℕ → Refusal → Type 0
HaltsAtPoint t start position refusal = (begin : ℕ) (numbering : Numbering) (before : Text) (set : FlagSet)
    (width : Option Amount) → HasBytes t begin start (before ++ point ∷ [])
    → SpellsUpToWidth before position set width → FollowsBy numbering position
    → Halts t begin numbering position (star_fetches width) refusal

-- the argument of a number, if there is one
abbrev pub one_fetch : Option ℕ → WholeArgType → List Fetch
one_fetch None type = []
one_fetch (Some n) type = fetch (Some n) type ∷ []

-- the number of the argument of a `*` ends before an offset, with its `$`; the specification has fetched this before
pub record IsStarAt (t : Text) (start stop n : ℕ) (position : Option ℕ) (own : List Fetch) : Type 0 where
  pub part : Text
  pub kind : RefusalKind
  pub digits : EndsInStarDigits part kind n position own
  pub bytes : HasBytes t start (stop - 1) part
  pub dollar_is : get_or t (stop - 1) 0 ≡ dollar
  pub within : stop ≤ length t

-- so it does, if there is one
abbrev pub HasStar : Text → ℕ → Option ℕ → Option ℕ → ℕ → List Fetch → Type 0
HasStar t start position None stop own = ⊤
HasStar t start position (Some n) stop own = IsStarAt t start stop n position own

-- the `*`s that were read of a specification; a numbered one has fetched their arguments
pub record HasStars (t : Text) (start : ℕ) (position : Option ℕ) (stars : Stars) (own : List Fetch) : Type 0 where
  pub width : HasStar t start position stars.width stars.width_stop []
  pub precision : HasStar t start position stars.precision stars.precision_stop (one_fetch stars.width int_type)
  pub own_is : is_some position ≡ true
      → own ≡ one_fetch stars.width int_type ++ one_fetch stars.precision int_type

-- where the parts of a specification begin that the code has read
abbrev pub offsets_read : Specification → PartOffsets
offsets_read read = record {
  flags = read.flags_start;
  width = read.flags_stop;
  precision = read.stars.width_stop;
  modifier = read.stars.precision_stop;
}

-- a specification that may follow others of a numbering is the bytes from an offset up to where it ends
pub record IsReadAt (t : Text) (start : ℕ) (numbering : Numbering) (found : Specification × ℕ) : Type 0 where
  pub read : IsSpecificationAt t start found
  pub parts : AreWholePartsAt t start found.1 (offsets_read found.0) (specification_read found.0)
  pub follows : FollowsBy numbering found.0.position
  pub stars : HasStars t start found.0.position found.0.stars
      (star_fetches (specification_read found.0).width ++ star_fetches (specification_read found.0).precision)

-- and it is defined
pub record IsDefinedAt (t : Text) (start : ℕ) (numbering : Numbering) (found : Specification × ℕ) : Type 0 where
  pub is : IsReadAt t start numbering found
  pub defined : IsWholeDefined (specification_read found.0)

-- no such specification begins there: it can't go on where the text is rejected
pub record IsRefusedIn (t : Text) (start : ℕ) (numbering : Numbering) (refused : Refused) : Type 0 where
  pub position : Option ℕ
  pub own : List Fetch
  pub halt : IsHalt t start numbering position own refused.refusal
  pub stars : HasStars t start position refused.stars own
  pub none : BeginsNoneAfter numbering (drop start t)

-- nor does one begin there that isn't defined
pub record IsUnreadIn (t : Text) (start : ℕ) (numbering : Numbering) (refused : Refused) : Type 0 where
  pub refused_is : IsRefusedIn t start numbering refused
  pub begins : BeginsNoAfter numbering (drop start t)
