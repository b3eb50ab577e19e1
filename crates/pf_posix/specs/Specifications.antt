-- The parts of a conversion specification of the whole language, defined or not.
use Prim.Native.Char.{code}
use Rattle.std.specs.Prelude.{ℕ, Option, codes}
use Rattle.pf_values.specs.declared.flags.FlagSet.{FlagSet}
use Rattle.pf_values.specs.meaning.Conversions.{conv_letter}
use Rattle.pf_values.specs.meaning.Lengths.{length_letters}
use Rattle.pf_values.specs.meaning.Text.{Text}
use Rattle.pf_posix.specs.declared.conversions.WholeConv.{WholeConv}
use Rattle.pf_posix.specs.declared.conversions.WholeConv.TheVariants.{Profile, Float, UpperC, UpperS, Pointer, Count}
use Rattle.pf_posix.specs.declared.conversions.Floating.{Floating}
use Rattle.pf_posix.specs.declared.conversions.Floating.TheVariants as floats
use Rattle.pf_posix.specs.declared.conversions.WholeLength.{WholeLength}
use Rattle.pf_posix.specs.declared.conversions.WholeLength.TheVariants.{Integer, LongDouble}

-- A field width or a precision: a number, or an argument, which has a number of its own in a
-- numbered specification (C11 7.21.6.1 p4 and p5; POSIX fprintf on `*m$`).
pub data Amount : Type 0 where
  Given : (n : ℕ) → Amount
  Fetched : (number : Option ℕ) → Amount

-- The parts of a specification (C11 7.21.6.1 p4); in a numbered one, the number of its argument
-- (POSIX fprintf on `%n$`).
pub record WholeSpecification : Type 0 where
  pub position : Option ℕ
  pub flags : FlagSet
  pub width : Option Amount
  pub precision : Option Amount
  pub modifier : WholeLength
  pub conversion : WholeConv

-- `f F e E g G a A` (C11 7.21.6.1 p8)
abbrev pub floating_letter : Floating → ℕ
floating_letter floats.F = code "f"
floating_letter floats.UpperF = code "F"
floating_letter floats.E = code "e"
floating_letter floats.UpperE = code "E"
floating_letter floats.G = code "g"
floating_letter floats.UpperG = code "G"
floating_letter floats.A = code "a"
floating_letter floats.UpperA = code "A"

-- those of the profile, `p` and `n` (C11 7.21.6.1 p8), `C` and `S` (POSIX fprintf)
abbrev pub conversion_letter : WholeConv → ℕ
conversion_letter (Profile conv) = conv_letter conv
conversion_letter (Float floating) = floating_letter floating
conversion_letter UpperC = code "C"
conversion_letter UpperS = code "S"
conversion_letter Pointer = code "p"
conversion_letter Count = code "n"

-- (C11 7.21.6.1 p7)
abbrev pub modifier_letters : WholeLength → Text
modifier_letters (Integer length) = length_letters length
modifier_letters LongDouble = codes "L"
