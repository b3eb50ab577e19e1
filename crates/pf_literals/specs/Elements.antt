-- The elements of a string literal of C source.
use Rattle.std.specs.Prelude.{◌≡◌, ◌≢◌, ℕ, ◌+◌, ◌-◌, ◌*◌, ◌<◌, ◌≤◌, Bool, true, false, ◌&&◌, ◌||◌, not, nat_le, ◌==◌, List, [], ◌∷◌, ◌++◌, length, flat_map, Option, Some, None, if◌then◌else◌}
use Rattle.std.specs.List.{AllByRecursion}
use Rattle.pf_literals.specs.declared.notations.Notation.{Notation}
use Rattle.pf_literals.specs.declared.notations.Notation.TheVariants.{Octal, Hexadecimal}

-- Bytes of a source file, or of the string that is made of it. Those that a program holds are below
-- 256.
abbrev pub Bytes : Type 0
Bytes = List ℕ

-- `"`, which opens and closes a literal (C11 6.4.5 p1)
abbrev pub quote : ℕ
quote = 34

-- `\`, which begins an escape sequence (C11 6.4.4.4 p1)
abbrev pub backslash : ℕ
backslash = 92

-- `?`: two of them begin a trigraph (C11 5.2.1.1 p1)
abbrev pub question : ℕ
question = 63

-- `x`, before the digits of a hexadecimal escape sequence (C11 6.4.4.4 p1)
abbrev pub hexadecimal_letter : ℕ
hexadecimal_letter = 120

-- the ends of a line
abbrev pub is_line_end : ℕ → Bool
is_line_end byte = byte == 10 || byte == 13

-- A byte as itself, or an escape sequence: a simple one has a letter, and denotes a byte; a numeric
-- one has digits (C11 6.4.5 p1, 6.4.4.4 p1).
pub data Element : Type 0 where
  Plain : (byte : ℕ) → Element
  Simple : (letter byte : ℕ) → Element
  Numeric : (notation : Notation) (digits : Bytes) → Element

-- the byte that a letter denotes after `\` (C11 6.4.4.4 p3 and p8, 5.2.2 p2; ASCII)
abbrev pub simple_byte : ℕ → Option ℕ
simple_byte letter =
    if letter == 34 then Some 34 else
    if letter == 92 then Some 92 else
    if letter == 39 then Some 39 else
    if letter == 63 then Some 63 else
    if letter == 97 then Some 7 else
    if letter == 98 then Some 8 else
    if letter == 116 then Some 9 else
    if letter == 110 then Some 10 else
    if letter == 118 then Some 11 else
    if letter == 102 then Some 12 else
    if letter == 114 then Some 13 else
    None

-- the base of a notation (C11 6.4.4.4 p5 and p6)
abbrev pub base : Notation → ℕ
base Octal = 8
base Hexadecimal = 16

-- `0` to `7`; or `0` to `9`, `A` to `F` and `a` to `f` (C11 6.4.4.4 p1, 6.4.4.1 p1)
abbrev pub is_escape_digit : Notation → ℕ → Bool
is_escape_digit Octal byte = nat_le 48 byte && nat_le byte 55
is_escape_digit Hexadecimal byte =
    (nat_le 48 byte && nat_le byte 57) || (nat_le 65 byte && nat_le byte 70)
    || (nat_le 97 byte && nat_le byte 102)

-- what a digit is worth
abbrev pub digit_value : ℕ → ℕ
digit_value byte =
    if nat_le byte 57 then byte - 48 else if nat_le byte 70 then byte - 55 else byte - 87

-- the number of some digits after others, which denote `number`
abbrev pub escape_number_after : Notation → ℕ → Bytes → ℕ
escape_number_after notation number [] = number
escape_number_after notation number (digit ∷ digits) =
    escape_number_after notation (base notation * number + digit_value digit) digits

-- the number of some digits (C11 6.4.4.4 p5 and p6)
abbrev pub escape_number : Notation → Bytes → ℕ
escape_number notation digits = escape_number_after notation 0 digits

-- an octal escape sequence has three digits at most (C11 6.4.4.4 p1)
abbrev pub is_full : Notation → ℕ → Bool
is_full Octal count = count == 3
is_full Hexadecimal count = false

-- an escape sequence may have `count` digits
abbrev pub AllowsDigitCount : Notation → ℕ → Type 0
AllowsDigitCount Octal count = count ≤ 3
AllowsDigitCount Hexadecimal count = Unit {0}

-- the digits of an escape sequence
pub record AreEscapeDigits (notation : Notation) (digits : Bytes) : Type 0 where
  pub each : AllByRecursion (λ digit. is_escape_digit notation digit ≡ true) digits
  pub room : AllowsDigitCount notation (length digits)

-- how a numeric escape sequence is written (C11 6.4.4.4 p1)
abbrev pub escape : Notation → Bytes → Bytes
escape Octal digits = backslash ∷ digits
escape Hexadecimal digits = backslash ∷ hexadecimal_letter ∷ digits

-- how an element is written
abbrev pub written : Element → Bytes
written (Plain byte) = byte ∷ []
written (Simple letter byte) = backslash ∷ letter ∷ []
written (Numeric notation digits) = escape notation digits

-- the byte that it denotes (C11 6.4.4.4 p3 to p8)
abbrev pub value : Element → ℕ
value (Plain byte) = byte
value (Simple letter byte) = byte
value (Numeric notation digits) = escape_number notation digits

-- a byte that may be an element as itself (C11 6.4.5 p1); NUL would end the string
pub record IsPlainByte (byte : ℕ) : Type 0 where
  pub no_quote : byte ≢ quote
  pub no_backslash : byte ≢ backslash
  pub in_line : is_line_end byte ≡ false
  pub some : byte ≢ 0

-- A number that fits a byte (C11 6.4.4.4 p9), and isn't zero, which would end the string.
pub record IsNumeric (notation : Notation) (digits : Bytes) : Type 0 where
  pub digits_are : AreEscapeDigits notation digits
  pub some : 0 < escape_number notation digits
  pub fits : escape_number notation digits ≤ 255

-- an element is one of the three
abbrev pub IsElement : Element → Type 0
IsElement (Plain byte) = IsPlainByte byte
IsElement (Simple letter byte) = simple_byte letter ≡ Some byte
IsElement (Numeric notation digits) = IsNumeric notation digits

-- `??` and one of these is a trigraph (C11 5.2.1.1 p1)
abbrev pub is_third : ℕ → Bool
is_third byte =
    byte == 61 || byte == 47 || byte == 39 || byte == 40 || byte == 41 || byte == 33
    || byte == 60 || byte == 62 || byte == 45

-- after `?`, the text continues as a trigraph does
abbrev pub ends_trigraph : Bytes → Bool
ends_trigraph (second ∷ third ∷ rest) = second == question && is_third third
ends_trigraph _ = false

-- after `count` digits, the text continues with one more
abbrev pub has_more_digits : Notation → ℕ → Bytes → Bool
has_more_digits notation count [] = false
has_more_digits notation count (byte ∷ rest) = not (is_full notation count) && is_escape_digit notation byte

-- a byte begins no trigraph with the text after it
abbrev pub begins_no_trigraph : ℕ → Bytes → Bool
begins_no_trigraph byte rest = not (byte == question && ends_trigraph rest)

-- An element may come before a text. A numeric one has as many digits as there are (C11 6.4.4.4
-- p7). A `?` begins no trigraph, also that of `\?`: trigraphs are replaced before escape sequences
-- are read (C11 5.1.1.2 p1, phases 1 and 5).
abbrev pub may_precede : Element → Bytes → Bool
may_precede (Plain byte) rest = begins_no_trigraph byte rest
may_precede (Simple letter byte) rest = begins_no_trigraph letter rest
may_precede (Numeric notation digits) rest = not (has_more_digits notation (length digits) rest)

-- elements one after another, and a text after them
abbrev pub AreElements : List Element → Bytes → Type 0
AreElements [] rest = Unit {0}
AreElements (element ∷ elements) rest =
    IsElement element × (may_precede element (flat_map written elements ++ rest) ≡ true)
    × AreElements elements rest
