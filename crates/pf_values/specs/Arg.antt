-- The program's arguments, each with its type in C. This project's own.
use Rattle.std.specs.Prelude.{pos}
use Rattle.pf_values.specs.declared.arguments.Arg.{Arg}
use Rattle.pf_values.specs.declared.arguments.Arg.TheVariants as variants
use Rattle.pf_values.specs.declared.arguments.CBytes.{CBytes}
use Rattle.pf_values.specs.declared.types.ArgType.{ArgType}
use Rattle.pf_values.specs.declared.types.ArgType.TheVariants.{Int, UInt, Long, ULong, LongLong, ULongLong, Str}
use Rattle.pf_values.specs.meaning.Arguments.{Argument, Number, String}
use Rattle.pf_values.specs.meaning.Text.{Text}

-- the bytes of a string, without the NUL that ends it in C (C11 7.1.1 p1)
abbrev pub bytes_of : CBytes → Text
bytes_of s = s.bytes.now

-- its type in C
abbrev pub type_of : Arg → ArgType
type_of (variants.Int n) = Int
type_of (variants.UInt n) = UInt
type_of (variants.Long n) = Long
type_of (variants.ULong n) = ULong
type_of (variants.LongLong n) = LongLong
type_of (variants.ULongLong n) = ULongLong
type_of (variants.Str s) = Str

-- its value
abbrev pub argument_of : Arg → Argument
argument_of (variants.Int n) = Number n
argument_of (variants.UInt n) = Number (pos n)
argument_of (variants.Long n) = Number n
argument_of (variants.ULong n) = Number (pos n)
argument_of (variants.LongLong n) = Number n
argument_of (variants.ULongLong n) = Number (pos n)
argument_of (variants.Str s) = String (bytes_of s)
