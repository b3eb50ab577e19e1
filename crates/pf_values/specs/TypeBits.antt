-- The bits of a type of arguments. This project's own.
use Rattle.pf_values.specs.declared.models.Model.{Model}
use Rattle.pf_values.specs.declared.types.ArgType.{ArgType}
use Rattle.pf_values.specs.declared.types.ArgType.TheVariants.{Int, UInt, Long, ULong, LongLong, ULongLong, Str}
use Rattle.pf_values.specs.meaning.Bits.{Bits, B32, B64}
use Rattle.pf_values.specs.meaning.DataModel.{long_bits}

-- The bits of an integer type (C11 6.2.5). A string has none: its row is never used.
abbrev pub type_bits : Model → ArgType → Bits
type_bits model Int = B32
type_bits model UInt = B32
type_bits model Long = long_bits model
type_bits model ULong = long_bits model
type_bits model LongLong = B64
type_bits model ULongLong = B64
type_bits model Str = B64
