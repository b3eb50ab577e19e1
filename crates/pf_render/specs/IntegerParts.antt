-- The parts of what a directive prints for an integer.
use Rattle.std.specs.Prelude.{◌≡◌, ℕ, ◌+◌, ℤ, Bool, [], ◌++◌, length, map, replicate, nat_abs, codes}
use Rattle.std.specs.Fmt.{digit_glyph}
use Rattle.std.specs.Int.Digits.{digits_of}
use Rattle.pf_values.specs.declared.conversions.Kind.{Kind}
use Rattle.pf_values.specs.meaning.Bases.{number_of, prefix_of}
use Rattle.pf_values.specs.meaning.Conversions.{base_under, has_capitals}
use Rattle.pf_values.specs.meaning.Printing.{sign_or_prefix}
use Rattle.pf_values.specs.meaning.Specification.{Specification}
use Rattle.pf_values.specs.meaning.Text.{Text, zero_digit}
use Rattle.pf_render.specs.declared.integer_parts.IntegerParts.{IntegerParts}
use Rattle.pf_render.specs.declared.integer_parts.SignOrPrefix.{SignOrPrefix}
use Rattle.pf_render.specs.declared.integer_parts.SignOrPrefix.TheVariants as prefixes
use Rattle.pf_render.specs.Zeros.{zeros_for}

-- a sign or a prefix, as it is printed
abbrev pub sign_or_prefix_text : SignOrPrefix → Text
sign_or_prefix_text prefixes.Nothing = []
sign_or_prefix_text prefixes.Minus = codes "-"
sign_or_prefix_text prefixes.Plus = codes "+"
sign_or_prefix_text prefixes.Space = codes " "
sign_or_prefix_text (prefixes.Letters base capitals) = prefix_of base capitals

-- the digits of a number, none for 0
abbrev pub digits_under : ℕ → Bool → ℕ → Text
digits_under base upper n = map (digit_glyph upper) (digits_of base n)

abbrev pub kind_digits : Kind → ℕ → Text
kind_digits kind n = digits_under (number_of (base_under kind)) (has_capitals kind) n

-- a sign or prefix, zeros, and these digits
abbrev pub parts_text : IntegerParts → Text → Text
parts_text parts digits =
    sign_or_prefix_text parts.prefix ++ (replicate parts.zeros zero_digit ++ digits)

-- how many bytes these are
abbrev pub parts_len : IntegerParts → ℕ
parts_len parts = length (sign_or_prefix_text parts.prefix) + parts.zeros + parts.digit_count

-- the parts of a value with this many digits (C11 7.21.6.1 p6, p8)
pub record HasParts (s : Specification) (v : ℤ) (count : ℕ) (parts : IntegerParts) : Type 0 where
  pub prefix : sign_or_prefix_text parts.prefix ≡ sign_or_prefix s v
  pub zeros : parts.zeros ≡ zeros_for s (length (sign_or_prefix_text parts.prefix)) count
  pub count_is : parts.digit_count ≡ count
  pub magnitude : parts.magnitude ≡ nat_abs v
