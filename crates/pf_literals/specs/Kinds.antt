-- The numbers and the names of the kinds of faults. This project's own: the standard asks for a
-- diagnostic in most of these cases, and of no words.
use Rattle.std.specs.Prelude.{ℕ, codes}
use Rattle.pf_literals.specs.declared.faults.LiteralKind.{LiteralKind}
use Rattle.pf_literals.specs.declared.faults.LiteralKind.TheVariants.{NoLiteral, Unterminated, BadEscape, EscapeTooLarge, ZeroByte, Trigraph}
use Rattle.pf_literals.specs.Elements.{Bytes}

-- the number of a kind of fault
abbrev pub literal_kind_number : LiteralKind → ℕ
literal_kind_number NoLiteral = 1
literal_kind_number Unterminated = 2
literal_kind_number BadEscape = 3
literal_kind_number EscapeTooLarge = 4
literal_kind_number ZeroByte = 5
literal_kind_number Trigraph = 6

-- the name of a kind of fault
abbrev pub literal_kind_name : LiteralKind → Bytes
literal_kind_name NoLiteral = codes "NoLiteral"
literal_kind_name Unterminated = codes "Unterminated"
literal_kind_name BadEscape = codes "BadEscape"
literal_kind_name EscapeTooLarge = codes "EscapeTooLarge"
literal_kind_name ZeroByte = codes "ZeroByte"
literal_kind_name Trigraph = codes "Trigraph"
