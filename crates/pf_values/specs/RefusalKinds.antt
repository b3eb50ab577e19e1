-- The numbers and the names of the kinds of refusal. This project's own: the standards leave a wrong
-- specification undefined (C11 7.21.6.1 p9, POSIX fprintf).
use Rattle.std.specs.Prelude.{ℕ, Bool, true, false, codes}
use Rattle.pf_values.specs.declared.refusals.RefusalKind.{RefusalKind}
use Rattle.pf_values.specs.declared.refusals.RefusalKind.TheVariants.{NulByte, Truncated, Unexpected, BadPercent, Star, Numbered, WidthTooLarge, PrecisionTooLarge, Float, Pointer, Count, Wide, AltUndefined, ZeroUndefined, GroupUndefined, PrecisionUndefined, LengthUndefined, TooLong, CountUndefined, Mixed, MissingArgument, TwoTypes}
use Rattle.pf_values.specs.meaning.Text.{Text}

-- the number of a kind
abbrev pub number : RefusalKind → ℕ
number NulByte = 1
number Truncated = 2
number Unexpected = 3
number BadPercent = 4
number Star = 5
number Numbered = 6
number WidthTooLarge = 7
number PrecisionTooLarge = 8
number Float = 9
number Pointer = 10
number Count = 11
number Wide = 12
number AltUndefined = 13
number ZeroUndefined = 14
number GroupUndefined = 15
number PrecisionUndefined = 16
number LengthUndefined = 17
number TooLong = 18
number CountUndefined = 19
number Mixed = 20
number MissingArgument = 21
number TwoTypes = 22

-- its name
abbrev pub name : RefusalKind → Text
name NulByte = codes "NulByte"
name Truncated = codes "Truncated"
name Unexpected = codes "Unexpected"
name BadPercent = codes "BadPercent"
name Star = codes "Star"
name Numbered = codes "Numbered"
name WidthTooLarge = codes "WidthTooLarge"
name PrecisionTooLarge = codes "PrecisionTooLarge"
name Float = codes "Float"
name Pointer = codes "Pointer"
name Count = codes "Count"
name Wide = codes "Wide"
name AltUndefined = codes "AltUndefined"
name ZeroUndefined = codes "ZeroUndefined"
name GroupUndefined = codes "GroupUndefined"
name PrecisionUndefined = codes "PrecisionUndefined"
name LengthUndefined = codes "LengthUndefined"
name TooLong = codes "TooLong"
name CountUndefined = codes "CountUndefined"
name Mixed = codes "Mixed"
name MissingArgument = codes "MissingArgument"
name TwoTypes = codes "TwoTypes"

-- the kinds of what the profile alone lacks
abbrev pub is_profile_alone : RefusalKind → Bool
is_profile_alone Star = true
is_profile_alone Float = true
is_profile_alone Pointer = true
is_profile_alone Count = true
is_profile_alone Wide = true
is_profile_alone _ = false
