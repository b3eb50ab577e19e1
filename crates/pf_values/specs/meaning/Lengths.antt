-- Length modifiers.
use Rattle.std.specs.Prelude.{Bool, true, false, [], codes}
use Rattle.pf_values.specs.declared.lengths.Length.{Length}
use Rattle.pf_values.specs.declared.lengths.Length.TheVariants as lengths
use Rattle.pf_values.specs.meaning.Text.{Text}

abbrev pub length_letters : Length → Text
length_letters lengths.None = []
length_letters lengths.Hh = codes "hh"
length_letters lengths.H = codes "h"
length_letters lengths.L = codes "l"
length_letters lengths.Ll = codes "ll"
length_letters lengths.J = codes "j"
length_letters lengths.Z = codes "z"
length_letters lengths.T = codes "t"

-- Whether there is no modifier.
abbrev pub is_absent : Length → Bool
is_absent lengths.None = true
is_absent _ = false

abbrev pub is_long : Length → Bool
is_long lengths.L = true
is_long _ = false
