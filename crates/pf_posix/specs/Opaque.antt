-- The items of the whole language that the profile lacks: opaque directives, and `%m`.
use Rattle.std.specs.Prelude.{◌≡◌, Bool, true, false, ◌&&◌, ◌||◌, Option, Some, None}
use Rattle.pf_values.specs.meaning.Conversions.{is_text}
use Rattle.pf_values.specs.meaning.Lengths.{is_long}
use Rattle.pf_values.specs.meaning.Text.{Text}
use Rattle.pf_posix.specs.declared.conversions.WholeConv.{WholeConv}
use Rattle.pf_posix.specs.declared.conversions.WholeConv.TheVariants.{Profile, Float, UpperC, UpperS, Pointer, Count}
use Rattle.pf_posix.specs.declared.conversions.WholeLength.{WholeLength}
use Rattle.pf_posix.specs.Defined.{IsWholeDefined}
use Rattle.pf_posix.specs.Items.{errno}
use Rattle.pf_posix.specs.Specifications.{Amount, Given, Fetched, WholeSpecification}
use Rattle.pf_posix.specs.Spelling.{SpellsWhole}
use Rattle.pf_posix.specs.Types.{integer_length}

-- whether a width or a precision is `*`, so that an argument supplies it (C11 7.21.6.1 p5)
abbrev pub is_star : Option Amount → Bool
is_star None = false
is_star (Some (Given n)) = false
is_star (Some (Fetched number)) = true

-- whether the profile lacks the conversion: a floating one, `p`, `n`, `lc`, `ls` (C11 7.21.6.1 p7,
-- p8), `C` or `S` (POSIX fprintf)
abbrev pub is_outside : WholeConv → WholeLength → Bool
is_outside (Profile conv) modifier = is_text conv && is_long (integer_length modifier)
is_outside (Float floating) modifier = true
is_outside UpperC modifier = true
is_outside UpperS modifier = true
is_outside Pointer modifier = true
is_outside Count modifier = true

-- whether the profile lacks the specification. What it prints is not defined here; the choice of the
-- profile is this project's own.
abbrev pub is_opaque : WholeSpecification → Bool
is_opaque s = is_star s.width || is_star s.precision || is_outside s.conversion s.modifier

-- The text spells an opaque directive: a specification that the standards define (C11 7.21.6.1 p4 to
-- p9), that the profile lacks, and whose arguments have no numbers (POSIX fprintf on `%n$`).
pub record SpellsOpaque (t : Text) (s : WholeSpecification) : Type 0 where
  pub spelled : SpellsWhole t s
  pub defined : IsWholeDefined s
  pub unnumbered : s.position ≡ None
  pub opaque : is_opaque s ≡ true

-- an item that the profile lacks: an opaque directive, or `%m`
pub data OpaqueItem : Type 0 where
  OpaqueSpecification : (s : WholeSpecification) → OpaqueItem
  OpaqueErrno : OpaqueItem

-- the text spells it
abbrev pub SpellsOpaqueItem : Text → OpaqueItem → Type 0
SpellsOpaqueItem t (OpaqueSpecification s) = SpellsOpaque t s
SpellsOpaqueItem t OpaqueErrno = t ≡ errno
