-- How many zeros come before the digits of a number.
use Rattle.std.specs.Prelude.{ℕ, ◌+◌, ◌-◌, max, ◌&&◌, if◌then◌else◌}
use Rattle.pf_values.specs.declared.flags.Flag.TheVariants.{Alt}
use Rattle.pf_values.specs.meaning.Conversions.{is_octal}
use Rattle.pf_values.specs.meaning.Flags.{has}
use Rattle.pf_values.specs.Directives.{effective_precision}
use Rattle.pf_values.specs.meaning.Specification.{Specification}

-- the fewest digits that are printed of a number with `count` digits; those of an octal number under
-- `#` begin with one 0 more (C11 7.21.6.1 p6)
abbrev pub fewest_digits : Specification → ℕ → ℕ
fewest_digits s count = if is_octal s.conv && has s.flags Alt then count + 1 else count

-- how many zeros come before `count` digits, after a sign or prefix of `front` bytes (C11 7.21.6.1
-- p6, p8)
abbrev pub zeros_for : Specification → ℕ → ℕ → ℕ
zeros_for s front count =
    max (effective_precision s front) (fewest_digits s count) - count
