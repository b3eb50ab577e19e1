-- The one literal of some bytes. The choice of elements is this project's own.
use Rattle.std.specs.Prelude.{ℕ, ◌+◌, ◌/◌, ◌%◌, Bool, ◌&&◌, ◌||◌, false, nat_le, ◌==◌, List, [], ◌∷◌, ◌++◌, flat_map, Option, Some, None, if◌then◌else◌}
use Rattle.pf_literals.specs.declared.notations.Notation.TheVariants.{Octal}
use Rattle.pf_literals.specs.Elements.{Bytes, Element, Plain, Simple, Numeric, question, quote, written}

-- the letter of a byte that has a simple escape sequence, except `'` and `?`
abbrev pub simple_letter : ℕ → Option ℕ
simple_letter byte =
    if byte == 34 then Some 34 else
    if byte == 92 then Some 92 else
    if byte == 7 then Some 97 else
    if byte == 8 then Some 98 else
    if byte == 9 then Some 116 else
    if byte == 10 then Some 110 else
    if byte == 11 then Some 118 else
    if byte == 12 then Some 102 else
    if byte == 13 then Some 114 else
    None

-- a byte that is printed as it is: those of ASCII, and all from 128 on
abbrev pub is_printed : ℕ → Bool
is_printed byte = (nat_le 32 byte && nat_le byte 126) || nat_le 128 byte

-- three octal digits, which no digit after them can join
abbrev pub octal_digits : ℕ → Bytes
octal_digits byte = (byte / 64 + 48) ∷ (byte / 8 % 8 + 48) ∷ (byte % 8 + 48) ∷ []

abbrev pub element_by : Option ℕ → ℕ → Element
element_by (Some letter) byte = Simple letter byte
element_by None byte =
    if is_printed byte then Plain byte else Numeric Octal (octal_digits byte)

-- the element for a byte, after a `?` or not: a second `?` side by side has a `\`, so that there is
-- no trigraph
abbrev pub element_for : Bool → ℕ → Element
element_for after byte =
    if after && byte == question then Simple question question else
    element_by (simple_letter byte) byte

-- the elements for some bytes, after a `?` or not
abbrev pub elements_for : Bool → Bytes → List Element
elements_for after [] = []
elements_for after (byte ∷ bytes) =
    element_for after byte ∷ elements_for (byte == question) bytes

-- how they are written
abbrev pub spelled : Bool → Bytes → Bytes
spelled after bytes = flat_map written (elements_for after bytes)

-- the one literal of some bytes
abbrev pub encoding : Bytes → Bytes
encoding bytes = quote ∷ spelled false bytes ++ quote ∷ []
