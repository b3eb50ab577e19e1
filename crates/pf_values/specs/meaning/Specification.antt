-- The parts of a conversion specification, defined or not.
use Rattle.std.specs.Prelude.{ℕ, Option, unwrap_or}
use Rattle.pf_values.specs.declared.conversions.Conv.{Conv}
use Rattle.pf_values.specs.declared.flags.FlagSet.{FlagSet}
use Rattle.pf_values.specs.declared.lengths.Length.{Length}

pub record Specification : Type 0 where
  pub flags : FlagSet
  pub width : Option ℕ
  pub precision : Option ℕ
  pub length : Length
  pub conv : Conv

-- The width, or 0 if there is none.
abbrev pub width_of : Specification → ℕ
width_of s = unwrap_or s.width 0
