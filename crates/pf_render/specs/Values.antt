-- Values by their sign and their magnitude. This project's own.
use Rattle.std.specs.Prelude.{◌≡◌, ℕ, ℤ, Bool, nat_abs}
use Rattle.pf_values.specs.meaning.Arguments.{IsConverted}
use Rattle.pf_values.specs.meaning.Printing.{is_negative}
use Rattle.pf_render.specs.declared.values.Value.{Value}

-- a value by its sign and its magnitude
pub record HasSignAndMagnitude (value : Value) (v : ℤ) : Type 0 where
  pub sign : value.is_negative ≡ is_negative v
  pub magnitude : value.magnitude ≡ nat_abs v

-- the value that a number has in a range
pub record IsOfValue (signed : Bool) (bits : ℕ) (number : ℤ) (value : Value) : Type 0 where
  pub whole : ℤ
  pub converted : IsConverted signed bits number whole
  pub parts : HasSignAndMagnitude value whole
