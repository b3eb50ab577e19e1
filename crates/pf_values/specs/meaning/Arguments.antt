-- Arguments, their types, and the value that a directive prints for a number.
use Rattle.std.specs.Prelude.{◌≡◌, ℕ, ◌<◌, ◌^◌, ◌*ℤ◌, ◌+ℤ◌, ℤ, pos, Bool, List}
use Rattle.std.specs.List.{AllByRecursion, AllZip}
use Rattle.pf_values.specs.declared.models.Model.{Model}
use Rattle.pf_values.specs.declared.types.ArgType.{ArgType}
use Rattle.pf_values.specs.declared.types.ArgType.TheVariants.{Str}
use Rattle.pf_values.specs.meaning.Conversions.{is_signed}
use Rattle.pf_values.specs.meaning.DataModel.{FitsIn, IsInRange, bit_count, bits_under}
use Rattle.pf_values.specs.meaning.Specification.{Specification}
use Rattle.pf_values.specs.meaning.Text.{Text}

-- An argument: an integer of any type, or the bytes of a string without the NUL that ends it.
pub data Argument : Type 0 where
  Number : (n : ℤ) → Argument
  String : (bytes : Text) → Argument

-- Bytes without NUL, which would end the string (C11 7.1.1 p1).
abbrev pub IsString : Text → Type 0
IsString bytes = AllByRecursion (λ byte. (0 < byte) × (byte < 256)) bytes

-- The argument has the type that a directive expects. Any other is undefined (C11 7.21.6.1 p9).
abbrev pub HasType : Model → Argument → ArgType → Type 0
HasType model (Number n) type = IsInRange model type n
HasType model (String bytes) Str = IsString bytes
HasType model (String bytes) _ = ⊥

-- There is one argument for each type, in order. Too few are undefined (C11 7.21.6.1 p2). The
-- standard ignores arguments that are left over; this project doesn't accept them.
abbrev pub HasTypes : Model → List Argument → List ArgType → Type 0
HasTypes model args types = AllZip (HasType model) args types

-- `to` is the number in the range of the type that differs from `from` by a multiple of 2 ^ bits
-- (C11 6.3.1.3 p1, p2). For signed types p3 leaves this to the implementation: this project chooses
-- two's complement.
pub record IsConverted (signed : Bool) (bits : ℕ) (from to : ℤ) : Type 0 where
  pub fits : FitsIn signed bits to
  pub times : ℤ
  pub differs : from ≡ to +ℤ times *ℤ pos (2 ^ bits)

-- The value that a directive prints for a number: the argument, converted to the type that the
-- length modifier names (C11 7.21.6.1 p7).
abbrev pub IsValue : Model → Specification → ℤ → ℤ → Type 0
IsValue model s argument value =
    IsConverted (is_signed s.conv) (bit_count (bits_under model s.length)) argument value
