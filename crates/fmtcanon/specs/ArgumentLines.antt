-- The argument types of formats in the whole language, as lines, and whether one format takes the
-- arguments of another. This project's own.
use Rattle.std.specs.Prelude.{◌≡◌, ℕ, List, ◌++◌, Option, Some, None, codes, decimal, flat_map}
use Rattle.pf_posix.specs.declared.types.WholeArgType.{WholeArgType}
use Rattle.pf_posix.specs.declared.types.WholeArgType.TheVariants.{Profile, Double, LongDouble, WideChar, WideString, Pointer, PointerToSChar, PointerToShort, PointerToInt, PointerToLong, PointerToLongLong}
use Rattle.pf_posix.specs.Items.{HasArguments}
use Rattle.pf_values.specs.declared.models.Model.{Model}
use Rattle.pf_values.specs.meaning.Text.{Text}
use Rattle.fmtcanon.specs.declared.answer.Ending.{Ending}
use Rattle.fmtcanon.specs.declared.answer.Ending.TheVariants as endings
use Rattle.fmtcanon.specs.Lines.{line}
use Rattle.fmtcanon.specs.TypeLines.{type_name}

-- a type in words
abbrev pub argument_name : WholeArgType → Text
argument_name (Profile type) = type_name type
argument_name Double = codes "double"
argument_name LongDouble = codes "long double"
argument_name WideChar = codes "wide character"
argument_name WideString = codes "wide string"
argument_name Pointer = codes "pointer"
argument_name PointerToSChar = codes "pointer to signed char"
argument_name PointerToShort = codes "pointer to short"
argument_name PointerToInt = codes "pointer to int"
argument_name PointerToLong = codes "pointer to long"
argument_name PointerToLongLong = codes "pointer to long long"

-- the words in a line
abbrev pub argument_line : WholeArgType → Text
argument_line type = line (argument_name type)

-- a line for each argument of an accepted format, in order
abbrev pub HasArgumentLines : Model → Text → Text → Type 0
HasArgumentLines model format lines =
    (types : List WholeArgType) × HasArguments model format types
    × (lines ≡ flat_map argument_line types)

-- that a format takes the arguments of another, or the index at which it doesn't
abbrev pub fit_line : Option ℕ → Text
fit_line None = line (codes "fits")
fit_line (Some index) = line (codes "types differ at argument " ++ decimal index)

abbrev pub fit_ending : Option ℕ → Ending
fit_ending None = endings.Same
fit_ending (Some index) = endings.Different

-- the line on how the arguments of two formats compare, and how the run ends
pub record IsFitAnswer (Compares : Option ℕ → Type 0) (out : Text) (ending : Ending) : Type 0 where
  pub index : Option ℕ
  pub compares : Compares index
  pub is_line : out ≡ fit_line index
  pub ends : ending ≡ fit_ending index
