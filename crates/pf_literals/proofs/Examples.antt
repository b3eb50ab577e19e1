-- Sources with their bytes and offsets, texts that are not sources, and literals of texts, each by the whole definition, as the reader
-- and the definitions compute. docs/DEFINITIONS.md goes through them.
use Rattle.std.proofs.Common.{◌≡◌, ◌∷◌, [], List, ℕ, codes, refl}
use Rattle.pf_literals.specs.declared.faults.LiteralKind.TheVariants.{NoLiteral, Unterminated, BadEscape, EscapeTooLarge, ZeroByte, Trigraph}
use Rattle.pf_literals.specs.Elements.{Bytes}
use Rattle.pf_literals.specs.Encoding.{encoding}
use Rattle.pf_literals.specs.Faults.{IsFaultAt}
use Rattle.pf_literals.specs.Sources.{HasOffsets, IsSourceOf}
use Rattle.pf_literals.proofs.Unique.{read_faulty, read_whole}

abbrev IsReadAs : Bytes → Bytes → List ℕ → ℕ → Type 0
IsReadAs t bytes found close = IsSourceOf t bytes × HasOffsets t found close

empty : IsReadAs (codes "\"\"") [] [] 1
empty = read_whole _ [] [] 1 refl

side_by_side : IsReadAs (codes "\"%\" \"d\" ") (codes "%d") (1 ∷ 5 ∷ []) 6
side_by_side = read_whole _ (codes "%d") (1 ∷ 5 ∷ []) 6 refl

simple_escapes : IsReadAs (codes "\"\\a\\b\\t\\n\\v\\f\\r\\\"\\\\\\'\\?\"") (7 ∷ 8 ∷ 9 ∷ 10 ∷ 11 ∷ 12 ∷ 13 ∷ 34 ∷ 92 ∷ 39 ∷ 63 ∷ [])
    (1 ∷ 3 ∷ 5 ∷ 7 ∷ 9 ∷ 11 ∷ 13 ∷ 15 ∷ 17 ∷ 19 ∷ 21 ∷ []) 23
simple_escapes = read_whole _ _ _ _ refl

-- as many digits as there are, and no more than three octal ones
octal_digits : IsReadAs (codes "\"\\1\\0450\\129\"") (1 ∷ 37 ∷ 48 ∷ 10 ∷ 57 ∷ []) (1 ∷ 3 ∷ 7 ∷ 8 ∷ 11 ∷ []) 12
octal_digits = read_whole _ _ _ _ refl

hexadecimal_digits : IsReadAs (codes "\"\\x00041g\\xfF\"") (65 ∷ 103 ∷ 255 ∷ []) (1 ∷ 8 ∷ 9 ∷ []) 13
hexadecimal_digits = read_whole _ _ _ _ refl

-- an escape sequence ends where its literal ends
not_joined : IsReadAs (codes "\"\\x1\" \"2\"") (1 ∷ 50 ∷ []) (1 ∷ 7 ∷ []) 8
not_joined = read_whole _ _ _ _ refl

no_trigraphs : IsReadAs (codes "\"??\" \"=?\\?/\"") (codes "??=??/") (1 ∷ 2 ∷ 6 ∷ 7 ∷ 8 ∷ 10 ∷ []) 11
no_trigraphs = read_whole _ _ _ _ refl

no_literal : IsFaultAt (codes " ") NoLiteral 1
no_literal = read_faulty _ _ _ refl

prefix : IsFaultAt (codes "L\"%d\"") NoLiteral 0
prefix = read_faulty _ _ _ refl

behind : IsFaultAt (codes "\"b\"x") NoLiteral 3
behind = read_faulty _ _ _ refl

at_the_end : IsFaultAt (codes "\"%d") Unterminated 3
at_the_end = read_faulty _ _ _ refl

at_a_line_end : IsFaultAt (codes "\"a\n\"") Unterminated 2
at_a_line_end = read_faulty _ _ _ refl

begun : IsFaultAt (codes "\"\\x0") Unterminated 4
begun = read_faulty _ _ _ refl

no_escape : IsFaultAt (codes "\"a\\q\"") BadEscape 2
no_escape = read_faulty _ _ _ refl

no_digit : IsFaultAt (codes "\"\\xg\"") BadEscape 1
no_digit = read_faulty _ _ _ refl

too_large : IsFaultAt (codes "\"h\\x6200") EscapeTooLarge 2
too_large = read_faulty _ _ _ refl

octal_too_large : IsFaultAt (codes "\"\\400\"") EscapeTooLarge 1
octal_too_large = read_faulty _ _ _ refl

zero_number : IsFaultAt (codes "\"a\\0b\"") ZeroByte 2
zero_number = read_faulty _ _ _ refl

zero_byte : IsFaultAt (34 ∷ 97 ∷ 0 ∷ []) ZeroByte 2
zero_byte = read_faulty _ _ _ refl

trigraph : IsFaultAt (codes "\"a???/n\"") Trigraph 3
trigraph = read_faulty _ _ _ refl

escaped_trigraph : IsFaultAt (codes "\"a\\??/n\"") Trigraph 3
escaped_trigraph = read_faulty _ _ _ refl

third_question_mark : IsFaultAt (codes "\"\\???=\"") Trigraph 3
third_question_mark = read_faulty _ _ _ refl

written_simply : encoding (7 ∷ 9 ∷ 10 ∷ 34 ∷ 92 ∷ 39 ∷ []) ≡ codes "\"\\a\\t\\n\\\"\\\\'\""
written_simply = refl

written_by_digits : encoding (1 ∷ 48 ∷ 127 ∷ 49 ∷ 0 ∷ []) ≡ codes "\"\\0010\\1771\\000\""
written_by_digits = refl

written_questions : encoding (codes "??=???") ≡ codes "\"?\\?=?\\?\\?\""
written_questions = refl

written_plain : encoding (195 ∷ 169 ∷ []) ≡ 34 ∷ 195 ∷ 169 ∷ 34 ∷ []
written_plain = refl
