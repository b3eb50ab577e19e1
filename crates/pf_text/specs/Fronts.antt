-- What has been read of an item. The states of reading it byte by byte are this project's own.
use Rattle.std.specs.Prelude.{◌≡◌, ◌≢◌, ℕ, false, List, [], ◌∷◌, ◌++◌, map, Option, Some, None}
use Rattle.pf_values.specs.declared.flags.Flag.{Flag}
use Rattle.pf_values.specs.declared.flags.FlagSet.{FlagSet}
use Rattle.pf_values.specs.declared.lengths.Length.{Length}
use Rattle.pf_values.specs.declared.lengths.Length.TheVariants as lengths
use Rattle.pf_values.specs.meaning.Defined.{is_above_limit}
use Rattle.pf_values.specs.meaning.Flags.{flag_byte, flag_set}
use Rattle.pf_values.specs.meaning.Lengths.{length_letters}
use Rattle.pf_values.specs.meaning.Spelling.{SpellsWidth, SpellsPrecision}
use Rattle.pf_values.specs.meaning.Text.{Text, percent, point}
use Rattle.pf_text.specs.Stages.{State}
use Rattle.pf_text.specs.Stages.{Between, Opened, Flags, Width, Point, Precision, Modifier}

-- A specification without its conversion: `%`, and any of flags, a width, a precision and a
-- modifier (C11 7.21.6.1 p4).
pub record IsFront (part : Text) (set : FlagSet) (width precision : Option ℕ)
    (length : Length) : Type 0 where
  pub flags : List Flag
  pub width_text : Text
  pub precision_text : Text
  pub set_is : set ≡ flag_set flags
  pub width_is : SpellsWidth width_text width
  pub precision_is : SpellsPrecision precision_text precision
  pub width_fits : is_above_limit width ≡ false
  pub precision_fits : is_above_limit precision ≡ false
  pub whole : part ≡ percent ∷ map flag_byte flags ++ width_text ++ precision_text
      ++ length_letters length

-- the state says what has been read
abbrev pub IsAt : State → Text → Type 0
IsAt Between part = part ≡ []
IsAt Opened part = part ≡ percent ∷ []
IsAt (Flags set) part = (h : IsFront part set None None lengths.None) × (h.flags ≢ [])
IsAt (Width set n) part = IsFront part set (Some n) None lengths.None
IsAt (Point set width) part =
    (h : IsFront part set width (Some 0) lengths.None) × (h.precision_text ≡ point ∷ [])
IsAt (Precision set width n) part =
    (h : IsFront part set width (Some n) lengths.None) × (h.precision_text ≢ point ∷ [])
IsAt (Modifier set width precision length) part =
    IsFront part set width precision length × (length ≢ lengths.None)
