-- The token at the front of a text, as the code finds it. No public contract names these.
use Rattle.std.specs.Prelude.{ℕ, ◌+◌, ◌*◌, ◌&&◌, not, nat_lt, ◌==◌, [], ◌∷◌, Option, Some, None, if◌then◌else◌}
use Rattle.pf_literals.specs.declared.faults.LiteralKind.TheVariants.{NoLiteral, Unterminated, BadEscape, EscapeTooLarge, ZeroByte, Trigraph}
use Rattle.pf_literals.specs.declared.notations.Notation.{Notation}
use Rattle.pf_literals.specs.declared.notations.Notation.TheVariants.{Octal, Hexadecimal}
use Rattle.pf_literals.specs.declared.tokens.Context.{Context}
use Rattle.pf_literals.specs.declared.tokens.Context.TheVariants.{Inside}
use Rattle.pf_literals.specs.declared.tokens.Token.{Token}
use Rattle.pf_literals.specs.declared.tokens.Token.TheVariants.{White, OpenQuote, CloseQuote, Character, Invalid}
use Rattle.pf_literals.specs.Elements.{Bytes, backslash, base, digit_value, ends_trigraph, has_more_digits, hexadecimal_letter, is_full, is_line_end, question, quote, simple_byte}
use Rattle.pf_literals.specs.Sources.{is_white}

-- how many bytes come before the digits
abbrev pub before_digits : Notation → ℕ
before_digits Octal = 1
before_digits Hexadecimal = 2

-- a numeric escape sequence with all its `count` digits
abbrev pub finished_numeric : Notation → ℕ → ℕ → Token
finished_numeric notation count number =
    if count == 0 then Invalid BadEscape 0 else
    if number == 0 then Invalid ZeroByte 0 else
    Character number (before_digits notation + count)

-- a numeric escape sequence where the text ends after its digits: more could follow
abbrev pub numeric_at_end : Notation → ℕ → ℕ → Token
numeric_at_end notation count number =
    if number == 0 && not (is_full notation count)
    then Invalid Unterminated (before_digits notation + count)
    else finished_numeric notation count number

-- a numeric escape sequence after `count` of its digits, which denote `number`
abbrev pub numeric_token : Notation → ℕ → ℕ → Bytes → Token
numeric_token notation count number [] = numeric_at_end notation count number
numeric_token notation count number (byte ∷ rest) =
    if has_more_digits notation count (byte ∷ rest) then (
    if nat_lt 255 (base notation * number + digit_value byte) then Invalid EscapeTooLarge 0 else
    numeric_token notation (count + 1) (base notation * number + digit_value byte) rest
    ) else finished_numeric notation count number

-- an escape sequence by its first letter, which may make a simple one
abbrev pub escape_by_letter : Option ℕ → ℕ → Bytes → Token
escape_by_letter (Some value) byte rest =
    if byte == question && ends_trigraph rest then Invalid Trigraph 1 else
    Character value 2
escape_by_letter None byte rest =
    if byte == hexadecimal_letter then numeric_token Hexadecimal 0 0 rest else
    numeric_token Octal 0 0 (byte ∷ rest)

-- an escape sequence, by what follows its `\`
abbrev pub escape_token : Bytes → Token
escape_token [] = Invalid Unterminated 1
escape_token (byte ∷ rest) = escape_by_letter (simple_byte byte) byte rest

-- the token at the front of a text in a literal
abbrev pub token_inside : Bytes → Token
token_inside [] = Invalid Unterminated 0
token_inside (byte ∷ rest) =
    if byte == quote then CloseQuote else
    if byte == backslash then escape_token rest else
    if is_line_end byte then Invalid Unterminated 0 else
    if byte == 0 then Invalid ZeroByte 0 else
    if byte == question && ends_trigraph rest then Invalid Trigraph 0 else
    Character byte 1

-- the token at the front of a text outside of a literal
abbrev pub token_outside : Bytes → Token
token_outside [] = Invalid NoLiteral 0
token_outside (byte ∷ rest) =
    if byte == quote then OpenQuote else
    if is_white byte then White else
    Invalid NoLiteral 0

abbrev pub token_at : Context → Bytes → Token
token_at Inside text = token_inside text
token_at _ text = token_outside text
