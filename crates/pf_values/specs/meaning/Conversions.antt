-- Conversions. One row per conversion gives its letter, and one its kind. Everything else is
-- derived from the kind.
use Prim.Native.Char.{code}
use Rattle.std.specs.Prelude.{ℕ, Bool, true, false}
use Rattle.pf_values.specs.declared.bases.Alternative.{Alternative}
use Rattle.pf_values.specs.declared.bases.Alternative.TheVariants.{Undefined}
use Rattle.pf_values.specs.declared.bases.Base.{Base}
use Rattle.pf_values.specs.declared.bases.Base.TheVariants.{Binary, Octal, Decimal, Hexadecimal}
use Rattle.pf_values.specs.declared.conversions.Conv.{Conv}
use Rattle.pf_values.specs.declared.conversions.Conv.TheVariants.{D, I, U, O, X, UpperX, B, C, S}
use Rattle.pf_values.specs.declared.conversions.Kind.{Kind}
use Rattle.pf_values.specs.declared.conversions.Kind.TheVariants as kinds
use Rattle.pf_values.specs.meaning.Bases.{
  alternative_of,
  is_defined,
  is_grouped,
  number_of,
  raises_precision,
}

-- The letters: `d`, `i`, `u`, `o`, `x`, `X`, `c` and `s` (C11 7.21.6.1 p8), and `b` (C23 7.23.6.1
-- p8).
abbrev pub conv_letter : Conv → ℕ
conv_letter D = code "d"
conv_letter I = code "i"
conv_letter U = code "u"
conv_letter O = code "o"
conv_letter X = code "x"
conv_letter UpperX = code "X"
conv_letter B = code "b"
conv_letter C = code "c"
conv_letter S = code "s"

-- What a conversion prints (C11 7.21.6.1 p8; C23 7.23.6.1 p8 on `b`).
abbrev pub kind_of : Conv → Kind
kind_of D = kinds.Signed
kind_of I = kinds.Signed
kind_of U = kinds.Unsigned Decimal false
kind_of O = kinds.Unsigned Octal false
kind_of X = kinds.Unsigned Hexadecimal false
kind_of UpperX = kinds.Unsigned Hexadecimal true
kind_of B = kinds.Unsigned Binary false
kind_of C = kinds.Char
kind_of S = kinds.String

-- The conversion that a normal directive uses instead: `d` for `i` (C11 7.21.6.1 p8), otherwise
-- itself.
abbrev pub kept_conv : Conv → Conv
kept_conv I = D
kept_conv D = D
kept_conv U = U
kept_conv O = O
kept_conv X = X
kept_conv UpperX = UpperX
kept_conv B = B
kept_conv C = C
kept_conv S = S

-- Whether it prints a byte or a string (C11 7.21.6.1 p8 on `c s`).
abbrev pub prints_text : Kind → Bool
prints_text kinds.Char = true
prints_text kinds.String = true
prints_text _ = false

abbrev pub prints_char : Kind → Bool
prints_char kinds.Char = true
prints_char _ = false

abbrev pub prints_string : Kind → Bool
prints_string kinds.String = true
prints_string _ = false

-- Whether it prints a number that may be below 0 (C11 7.21.6.1 p8 on `d i`).
abbrev pub prints_signed : Kind → Bool
prints_signed kinds.Signed = true
prints_signed _ = false

-- Whether it prints a number in base ten, whose digits `'` groups (POSIX fprintf).
abbrev pub prints_grouped : Kind → Bool
prints_grouped kinds.Signed = true
prints_grouped (kinds.Unsigned base capitals) = is_grouped base
prints_grouped _ = false

-- What `#` does. The standard defines nothing for a number with a sign, a byte or a string (C11
-- 7.21.6.1 p6).
abbrev pub alternative_under : Kind → Alternative
alternative_under (kinds.Unsigned base capitals) = alternative_of base
alternative_under _ = Undefined

-- The base of the digits. It is ten for numbers with a sign (C11 7.21.6.1 p8).
abbrev pub base_under : Kind → Base
base_under (kinds.Unsigned base capitals) = base
base_under _ = Decimal

-- Whether the digits from ten on are `ABCDEF` rather than `abcdef` (C11 7.21.6.1 p8 on `x X`).
abbrev pub has_capitals : Kind → Bool
has_capitals (kinds.Unsigned base capitals) = capitals
has_capitals _ = false

-- Classes of conversions, by what they print.
abbrev pub is_text : Conv → Bool
is_text conv = prints_text (kind_of conv)

abbrev pub is_char : Conv → Bool
is_char conv = prints_char (kind_of conv)

abbrev pub is_string : Conv → Bool
is_string conv = prints_string (kind_of conv)

abbrev pub is_decimal : Conv → Bool
is_decimal conv = prints_grouped (kind_of conv)

abbrev pub is_signed : Conv → Bool
is_signed conv = prints_signed (kind_of conv)

-- Whether `#` raises the precision.
abbrev pub is_octal : Conv → Bool
is_octal conv = raises_precision (alternative_under (kind_of conv))

-- Whether the standard defines `#` for it.
abbrev pub has_alternative_form : Conv → Bool
has_alternative_form conv = is_defined (alternative_under (kind_of conv))

abbrev pub base_of : Conv → ℕ
base_of conv = number_of (base_under (kind_of conv))

abbrev pub is_upper : Conv → Bool
is_upper conv = has_capitals (kind_of conv)
