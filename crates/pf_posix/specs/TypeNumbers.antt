-- The numbers of the types. This project's own.
use Rattle.std.specs.Prelude.{ℕ}
use Rattle.pf_values.specs.TypeNumbers.{type_number}
use Rattle.pf_posix.specs.declared.types.WholeArgType.{WholeArgType}
use Rattle.pf_posix.specs.declared.types.WholeArgType.TheVariants.{Profile, Double, LongDouble, WideChar, WideString, Pointer, PointerToSChar, PointerToShort, PointerToInt, PointerToLong, PointerToLongLong}

-- the number of a type
abbrev pub number_of_type : WholeArgType → ℕ
number_of_type (Profile type) = type_number type
number_of_type Double = 8
number_of_type LongDouble = 9
number_of_type WideChar = 10
number_of_type WideString = 11
number_of_type Pointer = 12
number_of_type PointerToSChar = 13
number_of_type PointerToShort = 14
number_of_type PointerToInt = 15
number_of_type PointerToLong = 16
number_of_type PointerToLongLong = 17
