use Rattle.std.proofs.Common.{◌-◌, ◌≡◌, List, length, map}
use Rattle.pf_values.specs.declared.flags.Flag.{Flag}
use Rattle.pf_values.specs.meaning.Flags.{flag_byte, flag_set}
use Rattle.pf_text.specs.Offsets.{HasBytes}
use Rattle.pf_text.proofs.specification.flags_at.Given as goal

abbrev pub invariant-loop-at : goal.invariant-loop-at
invariant-loop-at l = (flags : List Flag) × (l.flags ≡ flag_set flags) × HasBytes l.text l.start l.at (map flag_byte flags)

abbrev pub decreases-loop-at : goal.decreases-loop-at
decreases-loop-at l = length l.text - l.at
