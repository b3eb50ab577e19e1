-- The data models: types, bits and ranges. A model has three columns, which no other file gives:
-- the bits of a long, the rank of `size_t` and `ptrdiff_t`, and that of `intmax_t`. Everything else
-- is derived from these columns. The types of `j`, `z` and `t` in ILP32 are this project's choice.
use Rattle.std.specs.Prelude.{ℕ, ◌-◌, ◌^◌, ◌≤ℤ◌, ◌<ℤ◌, neg_ℤ, ℤ, pos, Bool, true, false}
use Rattle.pf_values.specs.declared.conversions.Conv.{Conv}
use Rattle.pf_values.specs.declared.conversions.Kind.{Kind}
use Rattle.pf_values.specs.declared.conversions.Kind.TheVariants as kinds
use Rattle.pf_values.specs.declared.models.Rank.{Rank}
use Rattle.pf_values.specs.declared.models.Rank.TheVariants as ranks
use Rattle.pf_values.specs.declared.lengths.Length.{Length}
use Rattle.pf_values.specs.declared.lengths.Length.TheVariants as lengths
use Rattle.pf_values.specs.declared.models.Model.{Model}
use Rattle.pf_values.specs.declared.models.Model.TheVariants.{Lp64, Ilp32, Llp64}
use Rattle.pf_values.specs.declared.types.ArgType.{ArgType}
use Rattle.pf_values.specs.declared.types.ArgType.TheVariants.{
  Int,
  UInt,
  Long,
  ULong,
  LongLong,
  ULongLong,
  Str,
}
use Rattle.pf_values.specs.meaning.Bases.{most_digits_in}
use Rattle.pf_values.specs.meaning.Bits.{by_bits}
pub use Rattle.pf_values.specs.meaning.Bits.{Bits, B8, B16, B32, B64, bit_count}
use Rattle.pf_values.specs.meaning.Conversions.{kind_of}
use Rattle.pf_values.specs.meaning.Specification.{Specification}

-- The meaning of a length modifier (C11 7.21.6.1 p7).
pub record LengthRow : Type 0 where
  -- the modifier that a normal directive uses instead
  pub kept : Length
  -- the bits of the value that is printed
  pub bits : Bits
  -- the types of the arguments of `d i` and of `u o x X b`, after promotion
  pub signed : ArgType
  pub unsigned : ArgType

abbrev pub columns : Length → Bits → ArgType → ArgType → LengthRow
columns kept bits signed unsigned =
    record { kept = kept; bits = bits; signed = signed; unsigned = unsigned }

-- The bits of a long.
abbrev pub long_bits : Model → Bits
long_bits Lp64 = B64
long_bits Ilp32 = B32
long_bits Llp64 = B32

-- The rank of `size_t` and its signed type, and of `ptrdiff_t` and its unsigned type.
abbrev pub size_rank : Model → Rank
size_rank Lp64 = ranks.Long
size_rank Ilp32 = ranks.Int
size_rank Llp64 = ranks.LongLong

-- The rank of `intmax_t` and `uintmax_t`.
abbrev pub greatest_rank : Model → Rank
greatest_rank Lp64 = ranks.Long
greatest_rank Ilp32 = ranks.LongLong
greatest_rank Llp64 = ranks.LongLong

-- The row of the modifier that names the types of a rank.
abbrev pub row_of_rank : Model → Rank → LengthRow
row_of_rank model ranks.Int = columns lengths.None B32 Int UInt
row_of_rank model ranks.Long = columns lengths.L (long_bits model) Long ULong
row_of_rank model ranks.LongLong = columns lengths.Ll B64 LongLong ULongLong

abbrev pub length_row : Model → Length → LengthRow
length_row model lengths.Hh = columns lengths.Hh B8 Int Int
length_row model lengths.H = columns lengths.H B16 Int Int
length_row model lengths.None = row_of_rank model ranks.Int
length_row model lengths.L = row_of_rank model ranks.Long
length_row model lengths.Ll = row_of_rank model ranks.LongLong
length_row model lengths.J = row_of_rank model (greatest_rank model)
length_row model lengths.Z = row_of_rank model (size_rank model)
length_row model lengths.T = row_of_rank model (size_rank model)

abbrev pub kept_length : Model → Length → Length
kept_length model length = (length_row model length).kept

-- The bits of the value that is printed under a length modifier.
abbrev pub bits_under : Model → Length → Bits
bits_under model length = (length_row model length).bits

-- The argument types of `d i` and of `u o x X b` under a length modifier.
abbrev pub signed_type : Model → Length → ArgType
signed_type model length = (length_row model length).signed

abbrev pub unsigned_type : Model → Length → ArgType
unsigned_type model length = (length_row model length).unsigned

-- The type of the argument (C11 7.21.6.1 p7, p8).
abbrev pub type_of_kind : Model → Kind → Length → ArgType
type_of_kind model kinds.Signed length = signed_type model length
type_of_kind model (kinds.Unsigned base capitals) length = unsigned_type model length
type_of_kind model kinds.Char length = Int
type_of_kind model kinds.String length = Str

abbrev pub type_under : Model → Conv → Length → ArgType
type_under model conv length = type_of_kind model (kind_of conv) length

abbrev pub arg_type : Model → Specification → ArgType
arg_type model s = type_under model s.conv s.length

-- The number can be represented in this many bits, with or without a sign (C11 6.2.6.2).
abbrev pub FitsIn : Bool → ℕ → ℤ → Type 0
FitsIn true bits n = (neg_ℤ (pos (2 ^ (bits - 1))) ≤ℤ n) × (n <ℤ pos (2 ^ (bits - 1)))
FitsIn false bits n = (pos 0 ≤ℤ n) × (n <ℤ pos (2 ^ bits))

-- The number is in the range of the type (C11 6.2.5). No number is in the range of a string.
abbrev pub IsInRange : Model → ArgType → ℤ → Type 0
IsInRange model Int n = FitsIn true 32 n
IsInRange model UInt n = FitsIn false 32 n
IsInRange model Long n = FitsIn true (bit_count (long_bits model)) n
IsInRange model ULong n = FitsIn false (bit_count (long_bits model)) n
IsInRange model LongLong n = FitsIn true 64 n
IsInRange model ULongLong n = FitsIn false 64 n
IsInRange model Str n = ⊥

-- The most digits of a value with this many bits. Its sign isn't counted.
abbrev pub most_digits_of : Kind → Bits → ℕ
most_digits_of kinds.Signed bits = by_bits bits 3 5 10 19
most_digits_of (kinds.Unsigned base capitals) bits = most_digits_in base bits
most_digits_of _ bits = 0

abbrev pub most_digits : Conv → Bits → ℕ
most_digits conv bits = most_digits_of (kind_of conv) bits
