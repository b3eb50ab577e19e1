-- The words that give arguments: `n:` and a decimal number, or `s:` and a string. This project's
-- own.
use Rattle.std.specs.Prelude.{◌≡◌, ℕ, ◌≤◌, ℤ, pos, neg_ℤ, Bool, true, false, List, [], ◌++◌, length, map, codes}
use Rattle.std.specs.Fmt.{digit_glyph}
use Rattle.pf_values.specs.meaning.Arguments.{Argument, Number, String, IsString}
use Rattle.pf_values.specs.meaning.Digits.{AreDigits}
use Rattle.pf_values.specs.meaning.Text.{Text}
use Rattle.fmtcanon.specs.declared.arguments.TheConstants.{MAX_DIGITS}

-- a decimal number without sign, with zeros in front or without
pub record SpellsMagnitude (t : Text) (n : ℕ) : Type 0 where
  pub digits : List ℕ
  pub are_digits : AreDigits 10 n digits
  pub some : 1 ≤ length digits
  pub few : length digits ≤ MAX_DIGITS
  pub whole : t ≡ map (digit_glyph false) digits

-- a `-` before a number below 0
abbrev pub minus_if : Bool → Text
minus_if true = codes "-"
minus_if false = []

-- the number, or its opposite
abbrev pub negated_if : Bool → ℤ → ℤ
negated_if true n = neg_ℤ n
negated_if false n = n

-- decimal digits, after a `-` if the number is below 0
pub record SpellsNumber (t : Text) (number : ℤ) : Type 0 where
  pub is_negative : Bool
  pub unsigned : Text
  pub magnitude : ℕ
  pub spelled : SpellsMagnitude unsigned magnitude
  pub value : number ≡ negated_if is_negative (pos magnitude)
  pub whole : t ≡ minus_if is_negative ++ unsigned

-- `n:` and a number, or `s:` and the bytes of a string
abbrev pub SpellsArgument : Text → Argument → Type 0
SpellsArgument word (Number n) = (t : Text) × SpellsNumber t n × (word ≡ codes "n:" ++ t)
SpellsArgument word (String bytes) = IsString bytes × (word ≡ codes "s:" ++ bytes)

-- a word gives one argument at most
abbrev pub SpellsOneArgument : Type 0
SpellsOneArgument =
    (word : Text) (a b : Argument) → SpellsArgument word a → SpellsArgument word b → a ≡ b
