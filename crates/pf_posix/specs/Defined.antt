-- Which specifications the standards define.
use Rattle.std.specs.Prelude.{◌≡◌, Bool, true, false, not, ◌&&◌, ◌||◌, Option, None, is_some, [], ◌∷◌, find}
use Rattle.pf_values.specs.declared.flags.Flag.TheVariants.{Minus, Plus, Space, Alt, Zero, Group}
use Rattle.pf_values.specs.declared.flags.FlagSet.{FlagSet}
use Rattle.pf_values.specs.meaning.Conversions.{has_alternative_form, is_char, is_decimal, is_text}
use Rattle.pf_values.specs.meaning.Flags.{has}
use Rattle.pf_values.specs.meaning.Lengths.{is_long, is_absent}
use Rattle.pf_posix.specs.declared.conversions.WholeConv.{WholeConv}
use Rattle.pf_posix.specs.declared.conversions.WholeConv.TheVariants.{Profile, Float, UpperS, Count}
use Rattle.pf_posix.specs.declared.conversions.Floating.{Floating}
use Rattle.pf_posix.specs.declared.conversions.Floating.TheVariants as floats
use Rattle.pf_posix.specs.declared.conversions.WholeLength.{WholeLength}
use Rattle.pf_posix.specs.declared.conversions.WholeLength.TheVariants.{Integer, LongDouble}
use Rattle.pf_values.specs.declared.refusals.RefusalKind.{RefusalKind}
use Rattle.pf_values.specs.declared.refusals.RefusalKind.TheVariants.{AltUndefined, ZeroUndefined, GroupUndefined, PrecisionUndefined, LengthUndefined, CountUndefined}
use Rattle.pf_posix.specs.Specifications.{WholeSpecification}

-- the flag `#` is defined for it (C11 7.21.6.1 p6)
abbrev pub takes_alt : WholeConv → Bool
takes_alt (Profile conv) = has_alternative_form conv
takes_alt (Float floating) = true
takes_alt _ = false

-- the flag `0` is: it prints an integer or a floating number (C11 7.21.6.1 p6)
abbrev pub takes_zero : WholeConv → Bool
takes_zero (Profile conv) = not (is_text conv)
takes_zero (Float floating) = true
takes_zero _ = false

-- `f F g G`, whose digits the flag `'` groups
abbrev pub is_grouped_floating : Floating → Bool
is_grouped_floating floats.F = true
is_grouped_floating floats.UpperF = true
is_grouped_floating floats.G = true
is_grouped_floating floats.UpperG = true
is_grouped_floating _ = false

-- the flag `'` is (POSIX fprintf)
abbrev pub takes_group : WholeConv → Bool
takes_group (Profile conv) = is_decimal conv
takes_group (Float floating) = is_grouped_floating floating
takes_group _ = false

-- a precision is (C11 7.21.6.1 p4)
abbrev pub takes_precision : WholeConv → Bool
takes_precision (Profile conv) = not (is_char conv)
takes_precision (Float floating) = true
takes_precision UpperS = true
takes_precision _ = false

-- a length modifier is (C11 7.21.6.1 p7); `lf` is `f`, and `lc` and `ls` are wide
abbrev pub takes_modifier : WholeConv → WholeLength → Bool
takes_modifier (Profile conv) (Integer length) =
    not (is_text conv) || is_absent length || is_long length
takes_modifier (Profile conv) LongDouble = false
takes_modifier (Float floating) (Integer length) = is_absent length || is_long length
takes_modifier (Float floating) LongDouble = true
takes_modifier Count (Integer length) = true
takes_modifier Count LongDouble = false
takes_modifier _ (Integer length) = is_absent length
takes_modifier _ LongDouble = false

abbrev pub is_count : WholeConv → Bool
is_count Count = true
is_count _ = false

-- there is a flag
abbrev pub has_any_flag : FlagSet → Bool
has_any_flag set =
    has set Minus || has set Plus || has set Space || has set Alt || has set Zero || has set Group

-- the kinds for which a specification is undefined, by whether there are a width and a precision
abbrev pub is_undefined_as : FlagSet → Bool → Bool → WholeLength → WholeConv → RefusalKind → Bool
is_undefined_as set width precision modifier conversion AltUndefined =
    has set Alt && not (takes_alt conversion)
is_undefined_as set width precision modifier conversion ZeroUndefined =
    has set Zero && not (takes_zero conversion)
is_undefined_as set width precision modifier conversion GroupUndefined =
    has set Group && not (takes_group conversion)
is_undefined_as set width precision modifier conversion PrecisionUndefined =
    precision && not (takes_precision conversion)
is_undefined_as set width precision modifier conversion LengthUndefined =
    not (takes_modifier conversion modifier)
is_undefined_as set width precision modifier conversion CountUndefined =
    is_count conversion && (has_any_flag set || width || precision)
is_undefined_as set width precision modifier conversion _ = false

-- the first of these kinds in the order of their numbers
abbrev pub undefined_as : FlagSet → Bool → Bool → WholeLength → WholeConv
    → Option RefusalKind
undefined_as set width precision modifier conversion =
    find (is_undefined_as set width precision modifier conversion)
    (AltUndefined ∷ ZeroUndefined ∷ GroupUndefined ∷ PrecisionUndefined ∷ LengthUndefined
    ∷ CountUndefined ∷ [])

-- why a specification isn't defined, if it isn't
abbrev pub undefined_of : WholeSpecification → Option RefusalKind
undefined_of s =
    undefined_as s.flags (is_some s.width) (is_some s.precision) s.modifier s.conversion

-- (C11 7.21.6.1 p4 to p9)
abbrev pub IsWholeDefined : WholeSpecification → Type 0
IsWholeDefined s = undefined_of s ≡ None
