-- Which specifications the standard defines, within the limits of this project.
use Rattle.std.specs.Prelude.{◌≡◌, ◌≢◌, ℕ, Bool, false, not, ◌&&◌, nat_lt, Option, Some, None, is_some, List, [], ◌∷◌, find}
use Rattle.pf_values.specs.declared.flags.Flag.TheVariants.{Alt, Zero, Group}
use Rattle.pf_values.specs.declared.limits.TheConstants.{MAX_NUMBER}
use Rattle.pf_values.specs.declared.refusals.RefusalKind.{RefusalKind}
use Rattle.pf_values.specs.declared.refusals.RefusalKind.TheVariants.{WidthTooLarge, PrecisionTooLarge, Wide, AltUndefined, ZeroUndefined, GroupUndefined, PrecisionUndefined, LengthUndefined}
use Rattle.pf_values.specs.meaning.Conversions.{has_alternative_form, is_char, is_decimal, is_text}
use Rattle.pf_values.specs.meaning.Flags.{has}
use Rattle.pf_values.specs.meaning.Lengths.{is_long, is_absent}
use Rattle.pf_values.specs.meaning.Specification.{Specification}

abbrev pub is_above_limit : Option ℕ → Bool
is_above_limit None = false
is_above_limit (Some n) = nat_lt MAX_NUMBER n

-- Whether the parts of a specification are rejected as this kind.
abbrev pub breaks : Specification → RefusalKind → Bool
breaks s WidthTooLarge = is_above_limit s.width
breaks s PrecisionTooLarge = is_above_limit s.precision
breaks s Wide = is_text s.conv && is_long s.length
breaks s AltUndefined = not (has_alternative_form s.conv) && has s.flags Alt
breaks s ZeroUndefined = is_text s.conv && has s.flags Zero
breaks s GroupUndefined = not (is_decimal s.conv) && has s.flags Group
breaks s PrecisionUndefined = is_char s.conv && is_some s.precision
breaks s LengthUndefined = is_text s.conv && not (is_absent s.length)
breaks s _ = false

-- The kinds of combinations that the standard leaves undefined, in the order of their numbers.
abbrev pub undefined_kinds : List RefusalKind
undefined_kinds =
    Wide ∷ AltUndefined ∷ ZeroUndefined ∷ GroupUndefined ∷ PrecisionUndefined ∷ LengthUndefined ∷ []

abbrev pub first_broken : List RefusalKind → Specification → Option RefusalKind
first_broken kinds s = find (breaks s) kinds

-- The kind with the smallest number as which the parts of a specification are rejected.
abbrev pub refused_as : Specification → Option RefusalKind
refused_as s = first_broken (WidthTooLarge ∷ PrecisionTooLarge ∷ undefined_kinds) s

pub record IsDefined (s : Specification) : Type 0 where
  pub width : s.width ≢ Some 0
  pub allowed : refused_as s ≡ None
