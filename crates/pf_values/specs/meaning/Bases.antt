-- The bases in which numbers are printed. What they mean is in a row for each.
use Rattle.std.specs.Prelude.{ℕ, Bool, true, false, if◌then◌else◌, [], codes}
use Rattle.pf_values.specs.declared.bases.Alternative.{Alternative}
use Rattle.pf_values.specs.declared.bases.Alternative.TheVariants.{Undefined, Raised, Prefixed}
use Rattle.pf_values.specs.declared.bases.Base.{Base}
use Rattle.pf_values.specs.declared.bases.Base.TheVariants.{Binary, Octal, Decimal, Hexadecimal}
use Rattle.pf_values.specs.meaning.Bits.{Bits, by_bits}
use Rattle.pf_values.specs.meaning.Text.{Text}

pub record BaseRow : Type 0 where
  -- the base itself (C11 7.21.6.1 p8)
  pub number : ℕ
  -- what `#` does (C11 7.21.6.1 p6)
  pub alternative : Alternative
  -- the letters that `#` puts before a number, in lower case and as capitals (C11 7.21.6.1 p6)
  pub prefix : Text
  pub capital_prefix : Text
  -- whether `'` groups the digits (POSIX fprintf)
  pub grouped : Bool

abbrev pub base_columns : ℕ → Alternative → Text → Text → Bool → BaseRow
base_columns number alternative prefix capital_prefix grouped = record {
  number = number;
  alternative = alternative;
  prefix = prefix;
  capital_prefix = capital_prefix;
  grouped = grouped;
}

-- The row of each base. Only `b` prints in base two, and its `#` puts `0b` before a number (C23
-- 7.23.6.1 p6, p8).
abbrev pub base_row : Base → BaseRow
base_row Binary = base_columns 2 Prefixed (codes "0b") (codes "0B") false
base_row Octal = base_columns 8 Raised [] [] false
base_row Decimal = base_columns 10 Undefined [] [] true
base_row Hexadecimal = base_columns 16 Prefixed (codes "0x") (codes "0X") false

abbrev pub number_of : Base → ℕ
number_of base = (base_row base).number

abbrev pub alternative_of : Base → Alternative
alternative_of base = (base_row base).alternative

abbrev pub prefix_of : Base → Bool → Text
prefix_of base capitals = if capitals then (base_row base).capital_prefix else (base_row base).prefix

abbrev pub is_grouped : Base → Bool
is_grouped base = (base_row base).grouped

-- The most digits of an unsigned number with this many bits.
abbrev pub most_digits_in : Base → Bits → ℕ
most_digits_in Binary bits = by_bits bits 8 16 32 64
most_digits_in Octal bits = by_bits bits 3 6 11 22
most_digits_in Decimal bits = by_bits bits 3 5 10 20
most_digits_in Hexadecimal bits = by_bits bits 2 4 8 16

-- Whether the standard defines `#` for it (C11 7.21.6.1 p6).
abbrev pub is_defined : Alternative → Bool
is_defined Undefined = false
is_defined _ = true

-- Whether `#` raises the precision (C11 7.21.6.1 p6).
abbrev pub raises_precision : Alternative → Bool
raises_precision Raised = true
raises_precision _ = false
