-- Where and why a text is rejected. This project's own, except for the parts of a specification: the
-- standards leave an invalid one undefined (C11 7.21.6.1 p9, POSIX fprintf).
use Rattle.std.specs.Prelude.{◌≡◌, ◌≢◌, ℕ, ◌+◌, ◌-◌, ◌*◌, ◌<◌, ◌≤◌, true, false, List, [], ◌∷◌, ◌++◌, length, Option, Some, None, ◌⊎◌, MatchBool, ◌==◌, ⊤}
use Rattle.std.specs.List.{AllByRecursion}
use Rattle.pf_values.specs.declared.limits.TheConstants.{MAX_NUMBER, MAX_TEXT_LEN}
use Rattle.pf_values.specs.declared.models.Model.{Model}
use Rattle.pf_values.specs.meaning.Text.{Text, dollar, percent, zero_digit}
use Rattle.pf_text.specs.States.{is_digit}
use Rattle.pf_posix.specs.declared.fetches.Fetch.{Fetch}
use Rattle.pf_values.specs.declared.refusals.RefusalKind.{RefusalKind}
use Rattle.pf_values.specs.declared.refusals.RefusalKind.TheVariants.{NulByte, Truncated, Unexpected, BadPercent, TooLong, Mixed, MissingArgument, TwoTypes}
use Rattle.pf_posix.specs.declared.specifications.Numbering.{Numbering}
use Rattle.pf_posix.specs.declared.specifications.Numbering.TheVariants.{Undecided, Unnumbered, Numbered}
use Rattle.pf_posix.specs.Beginnings.{EndsInDigits, EndsInFirst, EndsInStar, EndsInStarDigits, IsBegunAs, IsUndecided}
use Rattle.pf_posix.specs.Defined.{IsWholeDefined, undefined_of}
use Rattle.pf_posix.specs.Items.{WholeItem, ReadsWhole, errno_letter, fetched}
use Rattle.pf_posix.specs.Letters.{is_first_digit}
use Rattle.pf_posix.specs.Specifications.{WholeSpecification}
use Rattle.pf_posix.specs.Spelling.{SpellsWhole}
use Rattle.pf_posix.specs.Types.{IsFetched, conversion_type, fetch, int_type}

-- whether an argument is fetched by its number
abbrev pub numbering_by : Option ℕ → Numbering
numbering_by None = Unnumbered
numbering_by (Some n) = Numbered

-- whether the first one is fetched by its number
abbrev pub numbering_of : List Fetch → Numbering
numbering_of [] = Undecided
numbering_of (f ∷ fetched) = numbering_by f.number

-- a numbering, if there is one, may follow another
abbrev pub Follows : Numbering → Option Numbering → Type 0
Follows earlier None = ⊤
Follows earlier (Some numbering) = (earlier ≡ Undecided) ⊎ (earlier ≡ numbering)

-- two fetches don't take one argument with two types (POSIX fprintf on `%n$`)
abbrev pub IsOneType : Fetch → Fetch → Type 0
IsOneType f g = (n : ℕ) → f.number ≡ Some n → g.number ≡ Some n → f.wanted ≡ g.wanted

-- arguments are all fetched by number or none is, and none has two types (POSIX fprintf)
pub record AreAgreed (fetched : List Fetch) : Type 0 where
  pub one_numbering : AllByRecursion (λ f. numbering_by f.number ≡ numbering_of fetched) fetched
  pub one_type : AllByRecursion (λ f. AllByRecursion (IsOneType f) fetched) fetched

-- An argument is fetched, and one before it isn't (POSIX fprintf on `%n$`).
abbrev pub HasGap : List Fetch → Type 0
HasGap fetched = (index : ℕ) × (later : ℕ) × (index < later) × IsFetched later fetched
    × ¬ IsFetched index fetched

-- nothing, or the beginning of a specification, which may follow others of this numbering
abbrev pub MayFollow : Numbering → Text → List Fetch → Type 0
MayFollow numbering part own = ((part ≡ []) × (own ≡ []))
    ⊎ ((position : Option ℕ) × IsBegunAs part position own
    × (IsUndecided part ⊎ Follows numbering (Some (numbering_by position))))

-- Items, and then `part`, the beginning of one more. Each is defined, its numbers are within the limits, and
-- what was fetched agrees.
pub record IsGoodWholeFront (model : Model) (front : Text) (fetches : List Fetch) (part : Text) : Type 0 where
  pub items : List WholeItem
  pub whole : Text
  pub own : List Fetch
  pub reads : ReadsWhole whole items
  pub split : front ≡ whole ++ part
  pub fetches_are : fetches ≡ fetched model items ++ own
  pub agreed : AreAgreed fetches
  pub begun : MayFollow (numbering_of fetches) part own

-- The byte after a first number shows that numbered specifications and others are mixed: it is a `$`, where
-- earlier ones aren't numbered; or it isn't, where they are.
abbrev pub MixesFirst : Numbering → ℕ → Type 0
MixesFirst numbering byte = ((numbering ≡ Unnumbered) × (byte ≡ dollar))
    ⊎ ((numbering ≡ Numbered) × (is_digit byte ≡ false) × (byte ≢ dollar))

-- The byte after a `*` shows that numbered specifications and others are mixed: it is a digit, where the
-- specification isn't numbered; or where it is, it is instead of a number or of its `$`, and is
-- neither (POSIX fprintf on `*m$`).
abbrev pub MixesStar : Option ℕ → ℕ → Type 0
MixesStar None byte = is_digit byte ≡ true
MixesStar (Some n) byte = is_first_digit byte ≡ false

-- The byte shows that numbered specifications and others are mixed, which is undefined (POSIX fprintf): it
-- comes after `%`, after a first number, after a `*`, or after the number of one.
abbrev pub IsMixed : Text → Numbering → ℕ → Type 0
IsMixed part numbering byte =
    ((part ≡ percent ∷ []) × (numbering ≡ Numbered) × (is_first_digit byte ≡ false))
    ⊎ ((n : ℕ) × EndsInFirst part n × MixesFirst numbering byte)
    ⊎ ((position : Option ℕ) × (own : List Fetch) × EndsInStar part position own × MixesStar position byte)
    ⊎ ((kind : RefusalKind) × (n : ℕ) × (position : Option ℕ) × (own : List Fetch)
    × EndsInStarDigits part kind n position own × (is_digit byte ≡ false) × (byte ≢ dollar))

-- the byte is a digit with which a number passes the limit
abbrev pub PassesLimit : ℕ → ℕ → Type 0
PassesLimit n byte = (is_digit byte ≡ true) × (MAX_NUMBER < 10 * n + (byte - zero_digit))

-- The byte is a digit with which a width, a precision, or the number of an argument passes the limit. A number
-- right after `%` is rejected as a width.
abbrev pub IsNumberTooLarge : Text → ℕ → RefusalKind → Type 0
IsNumberTooLarge part byte kind = (n : ℕ) × PassesLimit n byte
    × (EndsInDigits part kind n
    ⊎ ((position : Option ℕ) × (own : List Fetch) × EndsInStarDigits part kind n position own))

-- the byte ends a specification
pub record CompletesSpecification (numbering : Numbering) (part : Text) (byte : ℕ) : Type 0 where
  pub s : WholeSpecification
  pub spelled : SpellsWhole (part ++ byte ∷ []) s
  pub follows : Follows numbering (Some (numbering_by s.position))

-- the byte ends a specification that isn't defined, for this reason first (C11 7.21.6.1 p4 to p9)
abbrev pub CompletesUndefined : Numbering → Text → ℕ → RefusalKind → Type 0
CompletesUndefined numbering part byte kind =
    (end : CompletesSpecification numbering part byte) × (undefined_of end.s ≡ Some kind)

-- the byte is the `$` after the number of the argument of a `*`, which it fetches
abbrev pub FetchesStar : Text → ℕ → Fetch → Type 0
FetchesStar part byte f = (kind : RefusalKind) × (n : ℕ) × (position : Option ℕ) × (own : List Fetch)
    × EndsInStarDigits part kind n position own × (byte ≡ dollar) × (f ≡ fetch (Some n) int_type)

-- the byte is the conversion, which fetches the last argument of a specification
abbrev pub FetchesLast : Model → Numbering → Text → ℕ → Fetch → Type 0
FetchesLast model numbering part byte f = (end : CompletesSpecification numbering part byte) × IsWholeDefined end.s
    × (f ≡ fetch end.s.position (conversion_type model end.s.modifier end.s.conversion))

-- the byte isn't allowed where it is, and no other reason holds: with it, the part is neither a specification
-- nor the beginning of one
pub record IsUnexpected (numbering : Numbering) (part : Text) (byte : ℕ) : Type 0 where
  pub begun : part ≢ []
  pub one_kind : ¬ IsMixed part numbering byte
  pub small : (kind : RefusalKind) → ¬ IsNumberTooLarge part byte kind
  pub no_whole : (s : WholeSpecification) → ¬ SpellsWhole (part ++ byte ∷ []) s
  pub no_part : (position : Option ℕ) (own : List Fetch) → ¬ IsBegunAs (part ++ byte ∷ []) position own

-- why a byte is rejected that is neither zero nor `%`
abbrev pub IsWrong : Model → List Fetch → Text → ℕ → RefusalKind → Type 0
IsWrong model fetches part byte kind =
    ((kind ≡ Mixed) × IsMixed part (numbering_of fetches) byte)
    ⊎ IsNumberTooLarge part byte kind
    ⊎ CompletesUndefined (numbering_of fetches) part byte kind
    ⊎ ((kind ≡ TwoTypes) × (f : Fetch)
    × (FetchesStar part byte f ⊎ FetchesLast model (numbering_of fetches) part byte f)
    × ¬ AllByRecursion (IsOneType f) fetches)
    ⊎ ((kind ≡ Unexpected) × IsUnexpected (numbering_of fetches) part byte)

-- why a byte is rejected after a front: NUL everywhere, `%` inside a specification, and others, but not
-- the letter of `%m`
abbrev pub IsWholeRefusedByte : Model → List Fetch → Text → ℕ → RefusalKind → Type 0
IsWholeRefusedByte model fetches part byte kind = MatchBool (byte == 0) (kind ≡ NulByte)
    (MatchBool (byte == percent) ((kind ≡ BadPercent) × (part ≢ []) × (part ≢ percent ∷ []))
    ((part ≡ percent ∷ [] → byte ≢ errno_letter) × IsWrong model fetches part byte kind))

-- why a text is rejected after a good front of `at` bytes
abbrev pub IsWholeRefusalCause : Model → List Fetch → Text → ℕ → Text → RefusalKind → Type 0
IsWholeRefusalCause model fetches part at [] kind = ((kind ≡ Truncated) × (part ≢ []))
    ⊎ ((kind ≡ MissingArgument) × (part ≡ []) × HasGap fetches)
IsWholeRefusalCause model fetches part at (byte ∷ rest) kind =
    MatchBool (at == MAX_TEXT_LEN) (kind ≡ TooLong) (IsWholeRefusedByte model fetches part byte kind)

-- the text is rejected after a good front
pub record IsWholeRefusedAt (model : Model) (t : Text) (kind : RefusalKind) (at : ℕ) : Type 0 where
  pub front : Text
  pub rest : Text
  pub part : Text
  pub fetches : List Fetch
  pub split : t ≡ front ++ rest
  pub offset : at ≡ length front
  pub limit : at ≤ MAX_TEXT_LEN
  pub good : IsGoodWholeFront model front fetches part
  pub cause : IsWholeRefusalCause model fetches part at rest kind
