-- The bytes that a directive prints, and those of a text.
use Rattle.std.specs.Prelude.{◌≡◌, ◌==◌, ℕ, zero, suc, ◌-◌, ℤ, pos, negsuc, nat_abs, Bool, true, false, not, ◌&&◌, List, [], ◌∷◌, ◌++◌, length, take, replicate, slice_index, codes, Option, Some, None, unwrap_or, is_none, if◌then◌else◌, ◌↔◌}
use Rattle.pf_values.specs.declared.bases.Alternative.{Alternative}
use Rattle.pf_values.specs.declared.bases.Alternative.TheVariants.{Prefixed}
use Rattle.pf_values.specs.declared.bases.Base.{Base}
use Rattle.pf_values.specs.declared.conversions.Kind.{Kind}
use Rattle.pf_values.specs.declared.conversions.Kind.TheVariants as kinds
use Rattle.pf_values.specs.declared.flags.Flag.TheVariants.{Minus, Plus, Space, Alt, Zero}
use Rattle.pf_values.specs.declared.models.Model.{Model}
use Rattle.pf_values.specs.meaning.Arguments.{Argument, Number, String, HasTypes, IsConverted, IsValue}
use Rattle.pf_values.specs.meaning.Bases.{alternative_of, prefix_of}
use Rattle.pf_values.specs.meaning.Conversions.{base_of, is_octal, is_upper, kind_of}
use Rattle.pf_values.specs.meaning.DataModel.{B8, bit_count}
use Rattle.pf_values.specs.meaning.Digits.{IsNumeral}
use Rattle.pf_values.specs.meaning.Flags.{has}
use Rattle.pf_values.specs.meaning.Items.{Item, Byte, Directive, Reads, types}
use Rattle.pf_values.specs.meaning.Specification.{Specification, width_of}
use Rattle.pf_values.specs.meaning.Text.{Text, space, zero_digit}

-- A `0` before the digits, unless they begin with one.
abbrev pub from_zero : Text → Text
from_zero digits = if slice_index digits 0 == zero_digit then digits else zero_digit ∷ digits

-- The digits of a number, at least as many as the precision, which is 1 if none is given (C11
-- 7.21.6.1 p8). For `o` the flag `#` makes the first one a `0` (p6).
abbrev pub AreDigitsOf : Specification → ℕ → Text → Type 0
AreDigitsOf s n t = (numeral : Text)
    × IsNumeral (base_of s.conv) (is_upper s.conv) (unwrap_or s.precision 1) n numeral
    × (t ≡ (if is_octal s.conv && has s.flags Alt then from_zero numeral else numeral))

abbrev pub is_negative : ℤ → Bool
is_negative (pos n) = false
is_negative (negsuc n) = true

abbrev pub is_zero : ℕ → Bool
is_zero zero = true
is_zero (suc n) = false

-- The sign: `-` below 0, otherwise what the flags ask for.
abbrev pub sign : Specification → ℤ → Text
sign s value =
    if is_negative value then codes "-"
    else (if has s.flags Plus then codes "+" else (if has s.flags Space then codes " " else []))

-- The prefix: `0x`, `0X` or `0b`, except for the number 0, which has none.
abbrev pub base_prefix : Text → Specification → ℤ → Text
base_prefix letters s value =
    if has s.flags Alt && not (is_zero (nat_abs value)) then letters else []

abbrev pub prefix_under : Alternative → Base → Bool → Specification → ℤ → Text
prefix_under Prefixed base capitals s value = base_prefix (prefix_of base capitals) s value
prefix_under _ base capitals s value = []

abbrev pub front_under : Kind → Specification → ℤ → Text
front_under kinds.Signed s value = sign s value
front_under (kinds.Unsigned base capitals) s value =
    prefix_under (alternative_of base) base capitals s value
front_under _ s value = []

-- The bytes before the digits.
abbrev pub sign_or_prefix : Specification → ℤ → Text
sign_or_prefix s value = front_under (kind_of s.conv) s value

-- The flag `0` counts if neither `-` nor a precision is given.
abbrev pub is_zero_filled : Specification → Bool
is_zero_filled s = has s.flags Zero && not (has s.flags Minus) && is_none s.precision

-- The zeros that pad these bytes to the width (C11 7.21.6.1 p6).
abbrev pub zeros : Specification → Text → Text
zeros s bytes = if is_zero_filled s then replicate (width_of s - length bytes) zero_digit else []

-- The bytes of a number without the spaces that pad it. Zeros follow the sign or prefix (C11
-- 7.21.6.1 p6).
pub record PrintsNumber (model : Model) (s : Specification) (argument : ℤ)
    (body : Text) : Type 0 where
  pub value : ℤ
  pub digits : Text
  pub value_is : IsValue model s argument value
  pub digits_are : AreDigitsOf s (nat_abs value) digits
  pub whole : body ≡ sign_or_prefix s value ++ zeros s (sign_or_prefix s value ++ digits) ++ digits

-- The byte of `%c`: the number modulo 256.
abbrev pub PrintsChar : ℤ → Text → Type 0
PrintsChar argument body = (byte : ℕ) × IsConverted false (bit_count B8) argument (pos byte)
    × (body ≡ byte ∷ [])

-- The first bytes of a string, no more than the precision if there is one.
abbrev pub printed_front : Option ℕ → Text → Text
printed_front None bytes = bytes
printed_front (Some most) bytes = take most bytes

abbrev pub PrintsKind : Model → Kind → Specification → Argument → Text → Type 0
PrintsKind model kinds.Signed s (Number n) body = PrintsNumber model s n body
PrintsKind model (kinds.Unsigned base capitals) s (Number n) body = PrintsNumber model s n body
PrintsKind model kinds.Char s (Number n) body = PrintsChar n body
PrintsKind model kinds.String s (String bytes) body = body ≡ printed_front s.precision bytes
PrintsKind model _ s _ body = ⊥

-- The spaces that are missing from the width.
abbrev pub padding : ℕ → Text → Text
padding width body = replicate (width - length body) space

-- A text in a field: at its left, or at its right.
abbrev pub field_of : Bool → ℕ → Text → Text
field_of left width body = if left then body ++ padding width body else padding width body ++ body

abbrev pub field : Specification → Text → Text
field s body = field_of (has s.flags Minus) (width_of s) body

-- A directive prints these bytes for this argument: its body, padded to the width.
abbrev pub Prints : Model → Specification → Argument → Text → Type 0
Prints model s argument out =
    (body : Text) × PrintsKind model (kind_of s.conv) s argument body × (out ≡ field s body)

-- Items print these bytes for these arguments. A byte prints itself, and each directive takes the
-- next argument. None may be missing or left over.
abbrev pub PrintsAll : Model → List Item → List Argument → Text → Type 0
PrintsAll model [] [] out = out ≡ []
PrintsAll model [] (argument ∷ args) out = ⊥
PrintsAll model (Byte byte ∷ items) args out = (rest : Text) × PrintsAll model items args rest
    × (out ≡ byte ∷ rest)
PrintsAll model (Directive s ∷ items) [] out = ⊥
PrintsAll model (Directive s ∷ items) (argument ∷ args) out = (first rest : Text)
    × Prints model s argument first × PrintsAll model items args rest × (out ≡ first ++ rest)

-- Two lists of items print alike: they fetch arguments of the same types, and print the same bytes
-- for all such arguments (C11 7.21.6.1 p2, p3).
pub record PrintAlike (model : Model) (a b : List Item) : Type 0 where
  pub same_types : types model a ≡ types model b
  pub same_bytes : (args : List Argument) (out : Text) → HasTypes model args (types model a)
      → (PrintsAll model a args out ↔ PrintsAll model b args out)

-- Two texts are equivalent, so that one may replace the other: their items print alike.
pub record AreEquivalent (model : Model) (t u : Text) : Type 0 where
  pub first : List Item
  pub second : List Item
  pub reads_first : Reads t first
  pub reads_second : Reads u second
  pub alike : PrintAlike model first second
