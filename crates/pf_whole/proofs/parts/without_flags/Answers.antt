use Rattle.std.proofs.Common.{◌≡◌, Bool, arith}
use Rattle.std.specs.Prelude.{if◌then◌else◌}
use Rattle.pf_values.specs.declared.flags.Flag.{Flag}
use Rattle.pf_values.specs.declared.flags.Flag.TheVariants.{Minus, Plus, Space, Alt, Zero, Group}
use Rattle.pf_values.specs.declared.flags.FlagSet.{FlagSet}
use Rattle.pf_values.specs.meaning.Flags.{has, no_flags, with_flag}
use Rattle.pf_whole.proofs.parts.without_flags.Goals as goal

abbrev with_left : FlagSet → FlagSet → Flag → FlagSet
with_left wanted left flag = if has wanted flag then with_flag left flag else left

-- a set is made of its flags, one after the other
all_left : (m p s a z g : Bool)
    → let wanted : FlagSet = record { minus = m; plus = p; space = s; alt = a; zero = z; group = g } in
    with_left wanted (with_left wanted (with_left wanted (with_left wanted (with_left wanted (with_left wanted no_flags Minus) Plus) Space) Alt) Zero) Group
    ≡ wanted
all_left m p s a z g = grind arith

pub returns : goal.returns
returns c = rw (
  c.with_left.ensures,
  c.with_left-left-5.ensures,
  c.with_left-left-4.ensures,
  c.with_left-left-3.ensures,
  c.with_left-left-2.ensures,
  c.with_left-left.ensures,
  c.empty.ensures,
) (all_left _ _ _ _ _ _)
