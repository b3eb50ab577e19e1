-- The numbers of the types of arguments. This project's own.
use Rattle.std.specs.Prelude.{ℕ}
use Rattle.pf_values.specs.declared.types.ArgType.{ArgType}
use Rattle.pf_values.specs.declared.types.ArgType.TheVariants.{Int, UInt, Long, ULong, LongLong, ULongLong, Str}

-- the number of a type
abbrev pub type_number : ArgType → ℕ
type_number Int = 1
type_number UInt = 2
type_number Long = 3
type_number ULong = 4
type_number LongLong = 5
type_number ULongLong = 6
type_number Str = 7
