-- Where and why a text is not a source.
use Rattle.std.specs.Prelude.{◌≡◌, ◌≢◌, ℕ, ◌+◌, ◌<◌, true, false, List, [], ◌∷◌, ◌++◌, length, flat_map, Option, Some, None, ◌⊎◌}
use Rattle.std.specs.List.{AllByRecursion}
use Rattle.pf_literals.specs.declared.faults.LiteralKind.{LiteralKind}
use Rattle.pf_literals.specs.declared.faults.LiteralKind.TheVariants.{NoLiteral, Unterminated, BadEscape, EscapeTooLarge, ZeroByte, Trigraph}
use Rattle.pf_literals.specs.declared.notations.Notation.{Notation}
use Rattle.pf_literals.specs.declared.notations.Notation.TheVariants.{Octal, Hexadecimal}
use Rattle.pf_literals.specs.Elements.{AreEscapeDigits, AreElements, Bytes, Element, backslash, escape, has_more_digits, hexadecimal_letter, is_escape_digit, is_full, is_line_end, is_third, escape_number, question, quote, simple_byte, written}
use Rattle.pf_literals.specs.Sources.{AreWhite, IsStringLiteral, StringLiteral, is_white, literal_text}

-- `\` and nothing, or `\x` and nothing, or with zeros and nothing after them: more digits may
-- follow, and make it a number from 1 on.
pub record IsUnfinishedEscape (rest : Bytes) : Type 0 where
  pub notation : Notation
  pub digits : Bytes
  pub digits_are : AreEscapeDigits notation digits
  pub zeros : escape_number notation digits ≡ 0
  pub room : is_full notation (length digits) ≡ false
  pub whole : rest ≡ escape notation digits

-- an escape sequence has all its digits: as many as there may be, or another byte follows
pub record IsFinishedEscape (notation : Notation) (digits rest : Bytes) : Type 0 where
  pub digits_are : AreEscapeDigits notation digits
  pub last : (is_full notation (length digits) ≡ true) ⊎ (rest ≢ [])
  pub no_more : has_more_digits notation (length digits) rest ≡ false

-- `\` and a byte that begins no escape sequence, or `\x` and a byte that isn't a digit (C11 6.4.4.4
-- p1)
abbrev pub IsNoEscape : Bytes → Type 0
IsNoEscape rest = (byte : ℕ) × (after : Bytes) × (
    ((rest ≡ backslash ∷ byte ∷ after) × (simple_byte byte ≡ None)
    × (byte ≢ hexadecimal_letter) × (is_escape_digit Octal byte ≡ false))
    ⊎ ((rest ≡ backslash ∷ hexadecimal_letter ∷ byte ∷ after) × (is_escape_digit Hexadecimal byte ≡ false)))

-- a numeric escape sequence of a number above 255, whatever follows (C11 6.4.4.4 p9)
abbrev pub IsEscapeTooLarge : Bytes → Type 0
IsEscapeTooLarge rest = (notation : Notation) × (digits : Bytes) × (after : Bytes)
    × AreEscapeDigits notation digits × (255 < escape_number notation digits)
    × (rest ≡ escape notation digits ++ after)

-- NUL, or an escape sequence of the number 0
abbrev pub IsZero : Bytes → Type 0
IsZero rest = (after : Bytes) × (
    (rest ≡ 0 ∷ after)
    ⊎ ((notation : Notation) × (digits : Bytes) × (digits ≢ []) × IsFinishedEscape notation digits after
    × (escape_number notation digits ≡ 0) × (rest ≡ escape notation digits ++ after)))

-- a trigraph, whatever follows (C11 5.2.1.1 p1)
abbrev pub IsTrigraph : Bytes → Type 0
IsTrigraph rest = (third : ℕ) × (after : Bytes) × (rest ≡ question ∷ question ∷ third ∷ after) × (is_third third ≡ true)

-- Why a text in a literal begins with no element, and how many bytes on that is reported: at its
-- first byte, except that a trigraph is reported at its first `?`, which may be that of `\?`, and a
-- text that ends in the literal at its end.
abbrev pub IsElementFault : Bytes → LiteralKind → ℕ → Type 0
IsElementFault rest NoLiteral on = ⊥
IsElementFault rest Unterminated on =
    ((byte : ℕ) × (after : Bytes) × (rest ≡ byte ∷ after) × (is_line_end byte ≡ true) × (on ≡ 0))
    ⊎ (((rest ≡ []) ⊎ IsUnfinishedEscape rest) × (on ≡ length rest))
IsElementFault rest BadEscape on = IsNoEscape rest × (on ≡ 0)
IsElementFault rest EscapeTooLarge on = IsEscapeTooLarge rest × (on ≡ 0)
IsElementFault rest ZeroByte on = IsZero rest × (on ≡ 0)
IsElementFault rest Trigraph on =
    (IsTrigraph rest × (on ≡ 0))
    ⊎ ((trigraph : Bytes) × (rest ≡ backslash ∷ trigraph) × IsTrigraph trigraph × (on ≡ 1))

-- a byte outside of a literal that isn't allowed there
abbrev pub IsStrayByte : Bytes → Type 0
IsStrayByte rest = (byte : ℕ) × (after : Bytes) × (rest ≡ byte ∷ after) × (byte ≢ quote)
    × (is_white byte ≡ false)

-- a literal that is open, by its elements so far, if there is one
abbrev pub open_text : Option (List Element) → Bytes
open_text None = []
open_text (Some elements) = quote ∷ flat_map written elements

-- its elements, before a text
abbrev pub AreOpen : Option (List Element) → Bytes → Type 0
AreOpen None rest = Unit {0}
AreOpen (Some elements) rest = AreElements elements rest

-- why a text can't follow whole literals and one that is open, if there is one
abbrev pub IsFaultCause : List StringLiteral → Option (List Element) → Bytes → LiteralKind → ℕ → Type 0
IsFaultCause literals (Some elements) rest kind on = IsElementFault rest kind on
IsFaultCause literals None rest kind on =
    (kind ≡ NoLiteral) × (on ≡ 0) × (((rest ≡ []) × (literals ≡ [])) ⊎ IsStrayByte rest)

-- The text is not a source. Its front is good: white space, whole literals, and elements of a
-- literal that is open, if there is one. The rest isn't, for this cause.
pub record IsFaultAt (t : Bytes) (kind : LiteralKind) (at : ℕ) : Type 0 where
  pub front : Bytes
  pub literals : List StringLiteral
  pub begun : Option (List Element)
  pub rest : Bytes
  pub on : ℕ
  pub front_white : AreWhite front
  pub each : AllByRecursion IsStringLiteral literals
  pub elements_are : AreOpen begun rest
  pub whole : t ≡ front ++ flat_map literal_text literals ++ open_text begun ++ rest
  pub cause : IsFaultCause literals begun rest kind on
  pub offset : at ≡ length (front ++ flat_map literal_text literals ++ open_text begun) + on
