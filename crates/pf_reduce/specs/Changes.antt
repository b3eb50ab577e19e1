-- What changes in the spelling of a directive whose canonical text is nearly its own. This project's own.
use Rattle.std.specs.Prelude.{◌≡◌, ℕ, true, false, ◌+◌, ◌-◌, ◌<◌, if◌then◌else◌, Some, None, IsFalse, IsTrue}
use Rattle.pf_values.specs.declared.flags.Flag.TheVariants.{Minus, Plus, Space, Alt, Zero, Group}
use Rattle.pf_values.specs.declared.models.Model.{Model}
use Rattle.pf_values.specs.meaning.Conversions.{is_signed, is_string, is_text, kept_conv}
use Rattle.pf_values.specs.meaning.DataModel.{kept_length}
use Rattle.pf_values.specs.meaning.Defined.{IsDefined}
use Rattle.pf_values.specs.meaning.Flags.{has, no_flags, with_flag}
use Rattle.pf_values.specs.meaning.Normal.{digits_at_most}
use Rattle.pf_values.specs.meaning.Specification.{Specification, width_of}
use Rattle.pf_reduce.specs.declared.changes.Change.{Change}
use Rattle.pf_reduce.specs.declared.changes.Change.TheVariants.{Letters, Filled, Padded}
use Rattle.pf_reduce.specs.declared.results.Core.TheVariants.{Normal}
use Rattle.pf_reduce.specs.declared.results.Reduced.{Reduced}
use Rattle.pf_reduce.specs.Cores.{with_side}
use Rattle.pf_reduce.specs.Reducing.{IsReduction, itself}

-- a directive with the length modifier and the conversion that a normal directive has for its own
abbrev pub kept_letters : Model → Specification → Specification
kept_letters model s =
    record s { length = kept_length model s.length; conv = kept_conv s.conv }

-- a precision in place of the width
abbrev pub as_precision : Model → Specification → Specification
as_precision model s =
    record (kept_letters model s) { flags = no_flags; width = None; precision = s.width }

-- a field of this width in place of a wider one
abbrev pub of_width : Model → Specification → ℕ → Specification
of_width model s width = record (kept_letters model s) { width = Some width }

-- such a field within the spaces that the wider one has in any case
abbrev pub within_spaces : Model → Specification → ℕ → Reduced
within_spaces model s width = record {
  spaces = if has s.flags Minus then 0 else width_of s - width;
  zeros = 0;
  core = Normal (record { model = model; specification = of_width model s width });
  trail = if has s.flags Minus then width_of s - width else 0;
}

-- no flags but `-` and `0`, and no precision of 1 for a number
pub record HasPlainParts (s : Specification) : Type 0 where
  pub defined : IsDefined s
  pub no_plus : IsFalse (has s.flags Plus)
  pub no_space : IsFalse (has s.flags Space)
  pub no_alt : IsFalse (has s.flags Alt)
  pub no_group : IsFalse (has s.flags Group)
  pub precision : s.precision ≡ Some 1 → IsTrue (is_string s.conv)

-- the most bytes that a number prints with no flags and no precision
pub record IsMostPrinted (model : Model) (s : Specification) (most : ℕ) : Type 0 where
  pub number : is_text s.conv ≡ false
  pub signed : is_signed s.conv ≡ true → most ≡ 1 + digits_at_most model s
  pub unsigned : is_signed s.conv ≡ false → most ≡ digits_at_most model s

-- the directive is reduced to itself with this change
abbrev pub IsChange : Model → Specification → Change → Type 0
IsChange model s Letters = IsReduction model s (itself model (kept_letters model s))
IsChange model s Filled = (s.flags ≡ with_flag no_flags Zero) × (s.precision ≡ None)
    × (0 < width_of s) × IsReduction model s (itself model (as_precision model s))
IsChange model s (Padded width) = (s.flags ≡ with_side (has s.flags Minus) no_flags)
    × (s.precision ≡ None) × (0 < width) × (width < 100) × (width < width_of s)
    × IsReduction model s (within_spaces model s width)
