-- What every normal directive has. This project's own.
use Rattle.std.specs.Prelude.{◌≡◌, Some, IsTrue, IsFalse}
use Rattle.pf_values.specs.declared.flags.Flag.TheVariants.{Plus, Space, Group}
use Rattle.pf_values.specs.declared.models.Model.{Model}
use Rattle.pf_values.specs.meaning.Conversions.{is_signed, is_string, kept_conv}
use Rattle.pf_values.specs.meaning.DataModel.{kept_length}
use Rattle.pf_values.specs.meaning.Flags.{has}
use Rattle.pf_values.specs.meaning.Specification.{Specification}

-- what `IsNormal` asks of every form
pub record HasNormalParts (model : Model) (s : Specification) : Type 0 where
  pub no_group : IsFalse (has s.flags Group)
  pub length : kept_length model s.length ≡ s.length
  pub conv : kept_conv s.conv ≡ s.conv
  pub no_plus : IsTrue (has s.flags Plus) → IsTrue (is_signed s.conv)
  pub no_space : IsTrue (has s.flags Space) → IsTrue (is_signed s.conv)
  pub precision : s.precision ≡ Some 1 → IsTrue (is_string s.conv)
