-- Normal directives. No two different ones print alike.
use Rattle.std.specs.Prelude.{◌≡◌, ◌≢◌, ℕ, ◌+◌, ◌<◌, ◌≤◌, max, Bool, true, false, Some, None, unwrap_or, IsTrue, IsFalse, MatchBool, IfSome, if◌then◌else◌, ◌||◌}
use Rattle.pf_values.specs.declared.bases.Alternative.{Alternative}
use Rattle.pf_values.specs.declared.bases.Alternative.TheVariants.{Undefined, Raised, Prefixed}
use Rattle.pf_values.specs.declared.conversions.Conv.TheVariants.{S}
use Rattle.pf_values.specs.declared.conversions.Kind.{Kind}
use Rattle.pf_values.specs.declared.conversions.Kind.TheVariants as kinds
use Rattle.pf_values.specs.declared.flags.Flag.TheVariants.{Minus, Plus, Space, Alt, Zero, Group}
use Rattle.pf_values.specs.declared.lengths.Length.TheVariants as lengths
use Rattle.pf_values.specs.declared.models.Model.{Model}
use Rattle.pf_values.specs.meaning.Bases.{alternative_of}
use Rattle.pf_values.specs.meaning.Conversions.{is_signed, is_string, kept_conv, kind_of}
use Rattle.pf_values.specs.meaning.DataModel.{bits_under, kept_length, most_digits}
use Rattle.pf_values.specs.meaning.Defined.{IsDefined}
use Rattle.pf_values.specs.meaning.Flags.{has, no_flags}
use Rattle.pf_values.specs.meaning.Specification.{Specification, width_of}

-- The precision of an integer: 1 if none is given.
abbrev pub precision_of : Specification → ℕ
precision_of s = unwrap_or s.precision 1

-- The most digits that a value of its type has.
abbrev pub digits_at_most : Model → Specification → ℕ
digits_at_most model s = most_digits s.conv (bits_under model s.length)

-- The most digits that it prints.
abbrev pub longest : Model → Specification → ℕ
longest model s = max (precision_of s) (digits_at_most model s)

-- 1 if a flag asks for a sign, otherwise 0.
abbrev pub sign_len : Specification → ℕ
sign_len s = if has s.flags Plus || has s.flags Space then 1 else 0

pub record IsNormalString (s : Specification) : Type 0 where
  pub shows_some : s.precision ≢ Some 0
  pub width : IfSome s.precision (λ p. width_of s ≤ p)
  pub left : IsTrue (has s.flags Minus) → 1 < width_of s

-- The form of `u o x X b` without `#`.
pub record IsNormalUnprefixed (model : Model) (s : Specification) : Type 0 where
  pub not_filled : IsFalse (has s.flags Zero)
  pub precision : precision_of s ≤ digits_at_most model s
  pub least : 0 < width_of s → precision_of s < width_of s
  pub most : width_of s ≤ digits_at_most model s
  pub left : IsTrue (has s.flags Minus) → (0 < width_of s) × (precision_of s ≡ 0 → 1 < width_of s)

-- The form of `o` with `#`.
pub record IsNormalOctal (model : Model) (s : Specification) : Type 0 where
  pub right : IsFalse (has s.flags Minus)
  pub not_filled : IsFalse (has s.flags Zero)
  pub some_digit : 1 ≤ precision_of s
  pub precision : precision_of s ≤ digits_at_most model s
  pub least : precision_of s < width_of s
  pub most : width_of s ≤ digits_at_most model s + 1

-- The form of a number that is filled with zeros up to the width.
pub record IsNormalFilled (s : Specification) : Type 0 where
  pub right : IsFalse (has s.flags Minus)
  pub no_precision : s.precision ≡ None
  pub width : 2 ≤ width_of s

-- The form of `x X b` with `#` that isn't filled.
pub record IsNormalPrefixed (model : Model) (s : Specification) : Type 0 where
  pub least : 0 < width_of s → precision_of s < width_of s
  pub most : width_of s ≤ 2 + longest model s
  pub left : IsTrue (has s.flags Minus) → (0 < width_of s) × (precision_of s ≡ 0 → 3 < width_of s)

-- The form of `d` that isn't filled.
pub record IsNormalSigned (model : Model) (s : Specification) : Type 0 where
  pub one_sign : IsTrue (has s.flags Plus) → IsFalse (has s.flags Space)
  pub least : 0 < width_of s → sign_len s + precision_of s < width_of s
  pub most : width_of s ≤ 1 + longest model s
  pub right_space : IsFalse (has s.flags Minus) → IsTrue (has s.flags Space)
      → width_of s ≢ 1 + longest model s
  pub right_bare : IsFalse (has s.flags Minus) → sign_len s ≡ 0
      → digits_at_most model s ≤ precision_of s
      → width_of s ≢ 1 + longest model s
  pub left : IsTrue (has s.flags Minus) → (0 < width_of s)
      × (IsFalse (has s.flags Plus) → precision_of s ≡ 0 → sign_len s + 1 < width_of s)

-- The form of `x X b`, by whether `#` and `0` are given.
abbrev pub HasPrefixedForm : Model → Bool → Bool → Specification → Type 0
HasPrefixedForm model true true s = IsNormalFilled s
HasPrefixedForm model true false s = IsNormalPrefixed model s
HasPrefixedForm model false _ s = IsNormalUnprefixed model s

-- The form of `u o x X b`, by what `#` does.
abbrev pub HasUnsignedForm : Model → Alternative → Specification → Type 0
HasUnsignedForm model Undefined s = IsNormalUnprefixed model s
HasUnsignedForm model Raised s =
    MatchBool (has s.flags Alt) (IsNormalOctal model s) (IsNormalUnprefixed model s)
HasUnsignedForm model Prefixed s = HasPrefixedForm model (has s.flags Alt) (has s.flags Zero) s

-- The form of `d`.
abbrev pub HasSignedForm : Model → Specification → Type 0
HasSignedForm model s =
    MatchBool (has s.flags Zero) (IsNormalFilled s × (sign_len s ≡ 0)) (IsNormalSigned model s)

abbrev pub HasNormalForm : Model → Kind → Specification → Type 0
HasNormalForm model kinds.Signed s = HasSignedForm model s
HasNormalForm model (kinds.Unsigned base capitals) s = HasUnsignedForm model (alternative_of base) s
HasNormalForm model kinds.Char s = (s.flags ≡ no_flags) × (s.width ≡ None) × (s.precision ≡ None)
HasNormalForm model kinds.String s = IsNormalString s

pub record IsNormal (model : Model) (s : Specification) : Type 0 where
  pub defined : IsDefined s
  pub no_group : IsFalse (has s.flags Group)
  pub length : kept_length model s.length ≡ s.length
  pub conv : kept_conv s.conv ≡ s.conv
  pub no_plus : IsTrue (has s.flags Plus) → IsTrue (is_signed s.conv)
  pub no_space : IsTrue (has s.flags Space) → IsTrue (is_signed s.conv)
  pub precision : s.precision ≡ Some 1 → IsTrue (is_string s.conv)
  pub form : HasNormalForm model (kind_of s.conv) s

-- `%.0s`, which takes a string and prints nothing.
abbrev pub silent : Specification
silent =
    record { flags = no_flags; width = None; precision = Some 0; length = lengths.None; conv = S }
