-- What single bytes mean in a specification. What is rejected is this project's own.
use Rattle.std.specs.Prelude.{ℕ, ◌==◌, List, [], ◌∷◌, map, filter, Option, find, if◌then◌else◌}
use Rattle.pf_values.specs.declared.conversions.Conv.{Conv}
use Rattle.pf_values.specs.declared.conversions.TheConstants.Conv.{ALL as all_convs}
use Rattle.pf_values.specs.declared.flags.Flag.{Flag}
use Rattle.pf_values.specs.declared.flags.FlagSet.{FlagSet}
use Rattle.pf_values.specs.declared.lengths.Length.{Length}
use Rattle.pf_values.specs.declared.lengths.Length.TheVariants as lengths
use Rattle.pf_values.specs.declared.refusals.RefusalKind.{RefusalKind}
use Rattle.pf_values.specs.declared.refusals.RefusalKind.TheVariants.{NulByte, BadPercent, Float, Pointer, Count, Wide, Unexpected}
use Rattle.pf_values.specs.meaning.Conversions.{conv_letter}
use Rattle.pf_values.specs.meaning.Flags.{all_flags, flag_byte, has}
use Rattle.pf_values.specs.meaning.Text.{Text, percent}

-- the flag that a byte is (C11 7.21.6.1 p6, POSIX fprintf)
abbrev pub flag_of : ℕ → Option Flag
flag_of byte = find (λ flag. flag_byte flag == byte) all_flags

-- the bytes of those of the flags that are in a set
abbrev pub flags_kept : FlagSet → List Flag → Text
flags_kept set flags = map flag_byte (filter (has set) flags)

-- the letter that begins a modifier (C11 7.21.6.1 p7); none has the number 0
abbrev pub first_letter : Length → ℕ
first_letter lengths.None = 0
first_letter lengths.Hh = 104
first_letter lengths.H = 104
first_letter lengths.L = 108
first_letter lengths.Ll = 108
first_letter lengths.J = 106
first_letter lengths.Z = 122
first_letter lengths.T = 116

-- the modifier that a letter begins (C11 7.21.6.1 p7)
abbrev pub modifier_of : ℕ → Option Length
modifier_of byte = find (λ l. first_letter l == byte)
    (lengths.H ∷ lengths.L ∷ lengths.J ∷ lengths.Z ∷ lengths.T ∷ [])

-- the conversion that a letter is (C11 7.21.6.1 p8; C23 7.23.6.1 p8 on `b`)
abbrev pub conv_of : ℕ → Option Conv
conv_of byte = find (λ conv. conv_letter conv == byte) all_convs

-- why a byte is rejected that can't continue a specification, wherever it comes
abbrev pub refused_letter : ℕ → RefusalKind
refused_letter byte =
    if byte == 0 then NulByte else
    if byte == percent then BadPercent else
    if byte == 97 then Float else
    if byte == 65 then Float else
    if byte == 101 then Float else
    if byte == 69 then Float else
    if byte == 102 then Float else
    if byte == 70 then Float else
    if byte == 103 then Float else
    if byte == 71 then Float else
    if byte == 112 then Pointer else
    if byte == 110 then Count else
    if byte == 67 then Wide else
    if byte == 83 then Wide else
    Unexpected
