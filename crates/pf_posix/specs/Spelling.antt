-- How a specification of the whole language is spelled.
use Rattle.std.specs.Prelude.{◌≡◌, ℕ, ◌<◌, ◌≤◌, false, List, [], ◌∷◌, ◌++◌, map, Option, Some, None, is_some}
use Rattle.pf_values.specs.declared.flags.Flag.{Flag}
use Rattle.pf_values.specs.declared.flags.FlagSet.{FlagSet}
use Rattle.pf_values.specs.declared.limits.TheConstants.{MAX_NUMBER}
use Rattle.pf_values.specs.meaning.Digits.{IsNumeral}
use Rattle.pf_values.specs.meaning.Flags.{flag_byte, flag_set}
use Rattle.pf_values.specs.meaning.Spelling.{SpellsPrecision}
use Rattle.pf_values.specs.meaning.Text.{Text, dollar, percent, point, star}
use Rattle.pf_posix.specs.Specifications.{Amount, Given, Fetched, WholeSpecification, conversion_letter, modifier_letters}

-- a number from 1 on within the limit; its digits don't begin with 0, which is a flag
-- (C11 7.21.6.1 p4, POSIX fprintf)
pub record SpellsPositive (t : Text) (n : ℕ) : Type 0 where
  pub some : 0 < n
  pub numeral : IsNumeral 10 false 1 n t
  pub within : n ≤ MAX_NUMBER

-- the number of an argument and `$`, or nothing (POSIX fprintf on `%n$`)
abbrev pub SpellsPosition : Text → Option ℕ → Type 0
SpellsPosition t None = t ≡ []
SpellsPosition t (Some n) = (digits : Text) × SpellsPositive digits n × (t ≡ digits ++ dollar ∷ [])

-- `*`, with the number of its argument in a numbered specification alone (C11 7.21.6.1 p5, POSIX
-- fprintf on `*m$`)
pub record SpellsStar (t : Text) (position number : Option ℕ) : Type 0 where
  pub digits : Text
  pub digits_are : SpellsPosition digits number
  pub numbering : is_some number ≡ is_some position
  pub whole : t ≡ star ∷ digits

-- a number, `*`, or nothing (C11 7.21.6.1 p4)
abbrev pub SpellsWholeWidth : Text → Option ℕ → Option Amount → Type 0
SpellsWholeWidth t position None = t ≡ []
SpellsWholeWidth t position (Some (Given n)) = SpellsPositive t n
SpellsWholeWidth t position (Some (Fetched number)) = SpellsStar t position number

-- a point and any number of digits or `*`, or nothing (C11 7.21.6.1 p4)
abbrev pub SpellsWholePrecision : Text → Option ℕ → Option Amount → Type 0
SpellsWholePrecision t position None = t ≡ []
SpellsWholePrecision t position (Some (Given n)) = SpellsPrecision t (Some n) × (n ≤ MAX_NUMBER)
SpellsWholePrecision t position (Some (Fetched number)) =
    (rest : Text) × SpellsStar rest position number × (t ≡ point ∷ rest)

-- `%`, the number of the argument, and flags in any order and number (C11 7.21.6.1 p4, POSIX
-- fprintf)
pub record SpellsUpToFlags (t : Text) (position : Option ℕ) (set : FlagSet) : Type 0 where
  pub number : Text
  pub flags : List Flag
  pub number_is : SpellsPosition number position
  pub set_is : set ≡ flag_set flags
  pub whole : t ≡ percent ∷ number ++ map flag_byte flags

-- `%`, the number of the argument, flags, and a width (C11 7.21.6.1 p4)
pub record SpellsUpToWidth (t : Text) (position : Option ℕ) (set : FlagSet)
    (width : Option Amount) : Type 0 where
  pub before : Text
  pub text : Text
  pub before_is : SpellsUpToFlags before position set
  pub width_is : SpellsWholeWidth text position width
  pub whole : t ≡ before ++ text

-- `%`, the number of the argument, flags, a width, and a precision (C11 7.21.6.1 p4)
pub record SpellsUpToPrecision (t : Text) (position : Option ℕ) (set : FlagSet)
    (width precision : Option Amount) : Type 0 where
  pub before : Text
  pub text : Text
  pub before_is : SpellsUpToWidth before position set width
  pub precision_is : SpellsWholePrecision text position precision
  pub whole : t ≡ before ++ text

-- all of it, with a length modifier and the conversion (C11 7.21.6.1 p4)
pub record SpellsWhole (t : Text) (s : WholeSpecification) : Type 0 where
  pub before : Text
  pub before_is : SpellsUpToPrecision before s.position s.flags s.width s.precision
  pub whole : t ≡ before ++ modifier_letters s.modifier ++ conversion_letter s.conversion ∷ []
