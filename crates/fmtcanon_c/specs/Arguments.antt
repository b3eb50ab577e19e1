-- The arguments of a C program, each with its type and its value. This project's own.
use Rattle.std.specs.Prelude.{ℕ, ◌==◌, pos, Option, Some, None, if◌then◌else◌}
use Rattle.std.specs.Int.{cast_signed, w64}
use Rattle.pf_values.specs.declared.types.ArgType.{ArgType}
use Rattle.pf_values.specs.declared.types.ArgType.TheVariants.{Int, UInt, Long, ULong, LongLong, ULongLong, Str}
use Rattle.pf_values.specs.meaning.Arguments.{Argument, Number, String}
use Rattle.pf_values.specs.meaning.Text.{Text}
use Rattle.fmtcanon_c.specs.declared.arguments.CArgument.{CArgument}

-- the type with a number of the header, if there is one
abbrev pub type_with_number : ℕ → Option ArgType
type_with_number n =
    if n == 1 then Some Int
    else if n == 2 then Some UInt
    else if n == 3 then Some Long
    else if n == 4 then Some ULong
    else if n == 5 then Some LongLong
    else if n == 6 then Some ULongLong
    else if n == 7 then Some Str
    else None

-- An argument whose number isn't that of a type has no type: it is a string that is said to be an int.
abbrev pub type_or_int : Option ArgType → ArgType
type_or_int (Some type) = type
type_or_int None = Int

-- a value, from 64 bits or from bytes: a signed type has its number in two's complement
abbrev pub value_from : ArgType → ℕ → Text → Argument
value_from Int bits bytes = Number (cast_signed w64 bits)
value_from UInt bits bytes = Number (pos bits)
value_from Long bits bytes = Number (cast_signed w64 bits)
value_from ULong bits bytes = Number (pos bits)
value_from LongLong bits bytes = Number (cast_signed w64 bits)
value_from ULongLong bits bytes = Number (pos bits)
value_from Str bits bytes = String bytes

abbrev pub value_or_string : Option ArgType → ℕ → Text → Argument
value_or_string (Some type) bits bytes = value_from type bits bytes
value_or_string None bits bytes = String bytes

-- the type of an argument
abbrev pub type_in_c : CArgument → ArgType
type_in_c arg = type_or_int (type_with_number arg.kind)

-- its value
abbrev pub value_in_c : CArgument → Argument
value_in_c arg = value_or_string (type_with_number arg.kind) arg.number arg.string.now
