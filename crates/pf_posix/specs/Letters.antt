-- Single bytes of a specification: length modifiers and conversions.
use Rattle.std.specs.Prelude.{ℕ, ◌&&◌, Bool, nat_le, ◌==◌, List, [], ◌∷◌, ◌++◌, map, Option, Some, option_map, find, if◌then◌else◌}
use Rattle.pf_values.specs.declared.conversions.TheConstants.Conv.{ALL as all_convs}
use Rattle.pf_text.specs.Letters.{modifier_of}
use Rattle.pf_posix.specs.declared.conversions.WholeConv.{WholeConv}
use Rattle.pf_posix.specs.declared.conversions.WholeConv.TheVariants.{Profile, Float, UpperC, UpperS, Pointer, Count}
use Rattle.pf_posix.specs.declared.conversions.Floating.TheVariants as floats
use Rattle.pf_posix.specs.declared.conversions.WholeLength.{WholeLength}
use Rattle.pf_posix.specs.declared.conversions.WholeLength.TheVariants.{Integer, LongDouble}
use Rattle.pf_posix.specs.Specifications.{conversion_letter}

-- `1` to `9`, with which a number begins
abbrev pub is_first_digit : ℕ → Bool
is_first_digit byte = nat_le 49 byte && nat_le byte 57

-- the modifier that a letter is or begins (C11 7.21.6.1 p7)
abbrev pub length_modifier_of : ℕ → Option WholeLength
length_modifier_of byte =
    if byte == 76 then Some LongDouble else option_map Integer (modifier_of byte)

-- all conversions
abbrev pub all_conversions : List WholeConv
all_conversions =
    map Profile all_convs
    ++ Float floats.F ∷ Float floats.UpperF ∷ Float floats.E ∷ Float floats.UpperE ∷ Float floats.G
    ∷ Float floats.UpperG ∷ Float floats.A ∷ Float floats.UpperA ∷ UpperC ∷ UpperS ∷ Pointer
    ∷ Count ∷ []

-- the conversion that a letter is
abbrev pub conversion_of : ℕ → Option WholeConv
conversion_of byte = find (λ conversion. conversion_letter conversion == byte) all_conversions
