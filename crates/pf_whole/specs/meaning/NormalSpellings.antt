-- The normal spelling of an opaque directive, and of `%m`. It drops or replaces what has no effect, by the standards
-- or by this project's choice where a comment says so, and keeps everything else.
use Rattle.std.specs.Prelude.{ℕ, Bool, true, false, not, ◌&&◌, [], ◌∷◌, ◌++◌, Option, Some, None, is_some, ◌==◌, if◌then◌else◌, decimal}
use Rattle.pf_values.specs.declared.conversions.Conv.TheVariants as convs
use Rattle.pf_values.specs.declared.flags.Flag.TheVariants.{Minus, Plus, Space, Alt, Zero}
use Rattle.pf_values.specs.declared.flags.FlagSet.{FlagSet}
use Rattle.pf_values.specs.declared.lengths.Length.TheVariants as lengths
use Rattle.pf_values.specs.declared.models.Model.{Model}
use Rattle.pf_values.specs.meaning.Conversions.{is_signed, is_text, kept_conv}
use Rattle.pf_values.specs.meaning.DataModel.{kept_length}
use Rattle.pf_values.specs.meaning.Flags.{has}
use Rattle.pf_values.specs.meaning.Spelling.{flags_spelled}
use Rattle.pf_values.specs.meaning.Text.{Text, percent, point, star}
use Rattle.pf_posix.specs.declared.conversions.WholeConv.{WholeConv}
use Rattle.pf_posix.specs.declared.conversions.WholeConv.TheVariants.{Profile, Float, UpperC, UpperS, Pointer, Count}
use Rattle.pf_posix.specs.declared.conversions.Floating.{Floating}
use Rattle.pf_posix.specs.declared.conversions.Floating.TheVariants as floats
use Rattle.pf_posix.specs.declared.conversions.WholeLength.{WholeLength}
use Rattle.pf_posix.specs.declared.conversions.WholeLength.TheVariants.{Integer, LongDouble}
use Rattle.pf_posix.specs.Items.{errno}
use Rattle.pf_posix.specs.Opaque.{OpaqueErrno, OpaqueItem, OpaqueSpecification}
use Rattle.pf_posix.specs.Specifications.{Amount, Given, Fetched, WholeSpecification, conversion_letter, modifier_letters}

-- Whether the conversion prints an integer: `d i u o x X b` (C11 7.21.6.1 p8; C23 7.23.6.1 p8).
abbrev pub is_integer : WholeConv → Bool
is_integer (Profile conv) = not (is_text conv)
is_integer _ = false

-- Whether the flags `+` and space are kept. They concern signed conversions, which are `d` and the
-- floating ones (C11 7.21.6.1 p6). On `p` they stay, since the implementation defines what it prints
-- (p8). On all others they are dropped, as in the profile, which is this project's choice.
abbrev pub keeps_sign : WholeConv → Bool
keeps_sign (Profile conv) = is_signed conv
keeps_sign (Float floating) = true
keeps_sign Pointer = true
keeps_sign _ = false

-- Whether a precision is a number (C11 7.21.6.1 p4).
abbrev pub is_given : Option Amount → Bool
is_given None = false
is_given (Some (Given n)) = true
is_given (Some (Fetched number)) = false

-- Whether the flag `0` is kept. It pads to the width, so it needs one. `-` overrides it, and so does a
-- precision of an integer (C11 7.21.6.1 p6), unless that is `*`: the argument may be negative, which
-- counts as no precision (p5).
abbrev pub keeps_zero : WholeSpecification → Bool
keeps_zero s = has s.flags Zero && is_some s.width && not (has s.flags Minus)
    && not (is_integer s.conversion && is_given s.precision)

-- The flags that are kept, each once. `-` justifies within a field, so it needs a width; a space next
-- to `+` is ignored (C11 7.21.6.1 p6); `'` groups nothing in the POSIX locale (POSIX fprintf).
abbrev pub kept_flags : WholeSpecification → FlagSet
kept_flags s = record {
  minus = has s.flags Minus && is_some s.width;
  plus = has s.flags Plus && keeps_sign s.conversion;
  space = has s.flags Space && not (has s.flags Plus) && keeps_sign s.conversion;
  alt = has s.flags Alt;
  zero = keeps_zero s;
  group = false;
}

-- The default precision of a floating conversion: 6 for `f F e E g G`, and none for `a A`, which
-- print as many digits as the value needs (C11 7.21.6.1 p8).
abbrev pub floating_precision : Floating → Option ℕ
floating_precision floats.A = None
floating_precision floats.UpperA = None
floating_precision _ = Some 6

-- The default precision of a conversion: 1 for an integer, that of a floating one, and none for the
-- others (C11 7.21.6.1 p8).
abbrev pub meant_precision : WholeConv → Option ℕ
meant_precision (Profile conv) = if is_text conv then None else Some 1
meant_precision (Float floating) = floating_precision floating
meant_precision _ = None

-- Whether the conversion is `g` or `G`. They take a precision of 0 as 1 (C11 7.21.6.1 p8).
abbrev pub is_general : WholeConv → Bool
is_general (Float floats.G) = true
is_general (Float floats.UpperG) = true
is_general _ = false

-- Whether there is a number, and it is this one.
abbrev pub is_amount : Option ℕ → ℕ → Bool
is_amount None n = false
is_amount (Some m) n = m == n

-- The normal form of a precision that is a number. The default is dropped, and 0 becomes 1 for `g`
-- and `G` (C11 7.21.6.1 p8).
abbrev pub given_precision : WholeConv → ℕ → Option Amount
given_precision conversion n =
    if is_amount (meant_precision conversion) n then None else
    if is_general conversion && n == 0 then Some (Given 1) else
    Some (Given n)

-- The precision that is kept. `*` stays (C11 7.21.6.1 p5, p8).
abbrev pub normal_precision : WholeConv → Option Amount → Option Amount
normal_precision conversion None = None
normal_precision conversion (Some (Given n)) = given_precision conversion n
normal_precision conversion (Some (Fetched number)) = Some (Fetched number)

-- The conversion that is kept: `d` for `i` (C11 7.21.6.1 p8), `c` for `C` and `s` for `S`, which
-- mean `lc` and `ls` (POSIX fprintf).
abbrev pub kept_conversion : WholeConv → WholeConv
kept_conversion (Profile conv) = Profile (kept_conv conv)
kept_conversion (Float floating) = Float floating
kept_conversion UpperC = Profile convs.C
kept_conversion UpperS = Profile convs.S
kept_conversion Pointer = Pointer
kept_conversion Count = Count

-- The modifier of a floating conversion. `l` has no effect (C11 7.21.6.1 p7).
abbrev pub floating_modifier : WholeLength → WholeLength
floating_modifier (Integer length) = Integer lengths.None
floating_modifier LongDouble = LongDouble

-- The modifier of an integer or of `n`. In the data model, another modifier names the same type as
-- `j`, `z` or `t`, and replaces it, as in the profile (C11 7.21.6.1 p7).
abbrev pub integer_modifier : Model → WholeLength → WholeLength
integer_modifier model (Integer length) = Integer (kept_length model length)
integer_modifier model LongDouble = LongDouble

-- The modifier that is kept (C11 7.21.6.1 p7; POSIX fprintf on `C` and `S`).
abbrev pub kept_modifier : Model → WholeConv → WholeLength → WholeLength
kept_modifier model (Profile conv) modifier =
    if is_text conv then modifier else integer_modifier model modifier
kept_modifier model (Float floating) modifier = floating_modifier modifier
kept_modifier model UpperC modifier = Integer lengths.L
kept_modifier model UpperS modifier = Integer lengths.L
kept_modifier model Pointer modifier = modifier
kept_modifier model Count modifier = integer_modifier model modifier

-- The parts of the normal spelling. The width is kept as it is (C11 7.21.6.1 p4).
abbrev pub normal_parts : Model → WholeSpecification → WholeSpecification
normal_parts model s = record {
  position = s.position;
  flags = kept_flags s;
  width = s.width;
  precision = normal_precision s.conversion s.precision;
  modifier = kept_modifier model s.conversion s.modifier;
  conversion = kept_conversion s.conversion;
}

-- A number in base ten without leading zeros, or `*`. The spelling of parts is this project's choice.
abbrev pub amount_spelled : Amount → Text
amount_spelled (Given n) = decimal n
amount_spelled (Fetched number) = star ∷ []

-- The spelling of a width, if there is one.
abbrev pub whole_width_spelled : Option Amount → Text
whole_width_spelled None = []
whole_width_spelled (Some amount) = amount_spelled amount

-- The spelling of a precision, if there is one.
abbrev pub whole_precision_spelled : Option Amount → Text
whole_precision_spelled None = []
whole_precision_spelled (Some amount) = point ∷ amount_spelled amount

-- The one spelling of the parts of a specification that isn't numbered: the flags in the order `-`,
-- `+`, space, `#`, `0`, then the rest in the order of C11 7.21.6.1 p4.
abbrev pub whole_spelling_of : WholeSpecification → Text
whole_spelling_of s =
    percent ∷ flags_spelled s.flags ++ whole_width_spelled s.width
    ++ whole_precision_spelled s.precision ++ modifier_letters s.modifier
    ++ conversion_letter s.conversion ∷ []

-- The normal spelling of a specification.
abbrev pub directive_spelling : Model → WholeSpecification → Text
directive_spelling model s = whole_spelling_of (normal_parts model s)

-- The normal spelling of what the profile lacks. That of `%m` is `%m`.
abbrev pub normal_spelling : Model → OpaqueItem → Text
normal_spelling model (OpaqueSpecification s) = directive_spelling model s
normal_spelling model OpaqueErrno = errno
