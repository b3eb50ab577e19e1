-- The beginning of a conversion specification (C11 7.21.6.1 p4; POSIX fprintf on numbered arguments), and what
-- it has fetched.
use Rattle.std.specs.Prelude.{◌≡◌, ◌≤◌, ℕ, true, List, [], ◌∷◌, ◌++◌, Option, Some, is_some, ◌⊎◌}
use Rattle.pf_values.specs.declared.flags.FlagSet.{FlagSet}
use Rattle.pf_values.specs.declared.limits.TheConstants.{MAX_NUMBER}
use Rattle.pf_values.specs.declared.refusals.RefusalKind.{RefusalKind}
use Rattle.pf_values.specs.declared.refusals.RefusalKind.TheVariants.{WidthTooLarge, PrecisionTooLarge}
use Rattle.pf_values.specs.meaning.Spelling.{SpellsPrecision}
use Rattle.pf_values.specs.meaning.Text.{Text, percent, point, star}
use Rattle.pf_posix.specs.declared.conversions.WholeLength.{WholeLength}
use Rattle.pf_posix.specs.declared.fetches.Fetch.{Fetch}
use Rattle.pf_posix.specs.Specifications.{Amount, modifier_letters}
use Rattle.pf_posix.specs.Spelling.{SpellsUpToFlags, SpellsUpToWidth, SpellsUpToPrecision, SpellsPositive}
use Rattle.pf_posix.specs.Types.{star_fetches}

-- The text is what comes before a width, or before a precision and with its point; it has fetched this. The
-- kind is the one for a number above the limit there.
abbrev pub TakesAmount : RefusalKind → Text → Option ℕ → List Fetch → Type 0
TakesAmount WidthTooLarge t position own =
    (set : FlagSet) × SpellsUpToFlags t position set × (own ≡ [])
TakesAmount PrecisionTooLarge t position own = (before : Text) × (set : FlagSet) × (width : Option Amount)
    × SpellsUpToWidth before position set width × (t ≡ before ++ point ∷ []) × (own ≡ star_fetches width)
TakesAmount _ t position own = ⊥

-- the digits of a width, or of a precision, which may begin with 0
abbrev pub SpellsAmount : RefusalKind → Text → ℕ → Type 0
SpellsAmount WidthTooLarge t n = SpellsPositive t n
SpellsAmount PrecisionTooLarge t n = SpellsPrecision (point ∷ t) (Some n) × (n ≤ MAX_NUMBER)
SpellsAmount _ t n = ⊥

-- the part ends in digits of a width or of a precision
pub record EndsInDigits (part : Text) (kind : RefusalKind) (n : ℕ) : Type 0 where
  pub before : Text
  pub digits : Text
  pub position : Option ℕ
  pub own : List Fetch
  pub before_is : TakesAmount kind before position own
  pub digits_are : SpellsAmount kind digits n
  pub whole : part ≡ before ++ digits

-- the part ends in `*`, before which it has fetched this
pub record EndsInStar (part : Text) (position : Option ℕ) (own : List Fetch) : Type 0 where
  pub kind : RefusalKind
  pub before : Text
  pub before_is : TakesAmount kind before position own
  pub whole : part ≡ before ++ star ∷ []

-- the part of a numbered specification ends in `*` and digits of the number that follows it (POSIX fprintf
-- on `*m$`)
pub record EndsInStarDigits (part : Text) (kind : RefusalKind) (n : ℕ) (position : Option ℕ)
    (own : List Fetch) : Type 0 where
  pub before : Text
  pub digits : Text
  pub before_is : TakesAmount kind before position own
  pub numbered : is_some position ≡ true
  pub digits_are : SpellsPositive digits n
  pub whole : part ≡ before ++ star ∷ digits

-- the part ends after a precision, or before one, or in letters of a length modifier
pub record EndsInPart (part : Text) (position : Option ℕ) (own : List Fetch) : Type 0 where
  pub before : Text
  pub set : FlagSet
  pub width : Option Amount
  pub precision : Option Amount
  pub modifier : WholeLength
  pub before_is : SpellsUpToPrecision before position set width precision
  pub whole : part ≡ before ++ modifier_letters modifier
  pub own_is : own ≡ star_fetches width ++ star_fetches precision

-- The beginning of a specification, but not the whole of it; the number of its argument, if that is there; and
-- what its `*`s have fetched.
abbrev pub IsBegunAs : Text → Option ℕ → List Fetch → Type 0
IsBegunAs part position own = EndsInPart part position own
    ⊎ (EndsInStar part position own × (is_some position ≡ true))
    ⊎ ((kind : RefusalKind) × (n : ℕ) × EndsInStarDigits part kind n position own)

-- `%` and the digits of a number, which may be a width or the number of the argument
abbrev pub EndsInFirst : Text → ℕ → Type 0
EndsInFirst part n = (digits : Text) × SpellsPositive digits n × (part ≡ percent ∷ digits)

-- it doesn't show yet whether the specification is numbered
abbrev pub IsUndecided : Text → Type 0
IsUndecided part = (part ≡ percent ∷ []) ⊎ ((n : ℕ) × EndsInFirst part n)
