-- Spellings of specifications.
use Rattle.std.specs.Prelude.{◌≡◌, ℕ, ◌<◌, false, List, [], ◌∷◌, ◌++◌, map, filter, Option, Some, None, decimal}
use Rattle.std.specs.Fmt.{digit_glyph}
use Rattle.pf_values.specs.declared.flags.Flag.{Flag}
use Rattle.pf_values.specs.declared.flags.FlagSet.{FlagSet}
use Rattle.pf_values.specs.meaning.Conversions.{conv_letter}
use Rattle.pf_values.specs.meaning.Digits.{AreDigits, IsNumeral}
use Rattle.pf_values.specs.meaning.Flags.{all_flags, flag_byte, flag_set, has}
use Rattle.pf_values.specs.meaning.Lengths.{length_letters}
use Rattle.pf_values.specs.meaning.Specification.{Specification}
use Rattle.pf_values.specs.meaning.Text.{Text, percent, point}

-- A number from 1 on, or nothing. Its first digit isn't 0, which would be a flag (C11 7.21.6.1 p4).
abbrev pub SpellsWidth : Text → Option ℕ → Type 0
SpellsWidth t None = t ≡ []
SpellsWidth t (Some n) = (0 < n) × IsNumeral 10 false 1 n t

-- A point and any number of digits, or nothing. No digits mean 0 (C11 7.21.6.1 p4).
abbrev pub SpellsPrecision : Text → Option ℕ → Type 0
SpellsPrecision t None = t ≡ []
SpellsPrecision t (Some n) =
    (ds : List ℕ) × AreDigits 10 n ds × (t ≡ point ∷ map (digit_glyph false) ds)

-- `%`, flags in any order and number, a width, a precision, a length modifier and a conversion (C11
-- 7.21.6.1 p4).
pub record Spells (t : Text) (s : Specification) : Type 0 where
  pub flags : List Flag
  pub width : Text
  pub precision : Text
  pub flags_are : s.flags ≡ flag_set flags
  pub width_is : SpellsWidth width s.width
  pub precision_is : SpellsPrecision precision s.precision
  pub whole : t ≡ percent ∷ map flag_byte flags ++ width ++ precision ++ length_letters s.length
      ++ conv_letter s.conv ∷ []

-- Each flag once, in one order. The spellings from here on are this project's choice.
abbrev pub flags_spelled : FlagSet → Text
flags_spelled flags = map flag_byte (filter (has flags) all_flags)

-- The width without leading zeros.
abbrev pub width_spelled : Option ℕ → Text
width_spelled None = []
width_spelled (Some n) = decimal n

-- The precision without leading zeros, and `.0` for a precision of 0.
abbrev pub precision_spelled : Option ℕ → Text
precision_spelled None = []
precision_spelled (Some n) = point ∷ decimal n

-- The one spelling of a specification.
abbrev pub spelling_of : Specification → Text
spelling_of s =
    percent ∷ flags_spelled s.flags ++ width_spelled s.width ++ precision_spelled s.precision
    ++ length_letters s.length ++ conv_letter s.conv ∷ []
