use Rattle.std.proofs.Common.{◌-◌, ◌≤◌, drop, length}
use Rattle.pf_posix.specs.declared.stretches.Found.TheVariants as found
use Rattle.pf_posix.specs.Stretches.{ReadsStretches, Stretches}
use Rattle.pf_posix.specs.StretchesInText.{IsFound}
use Rattle.pf_posix.proofs.stretches.next_stretch.Given as goal

abbrev pub invariant-loop-at : goal.invariant-loop-at
invariant-loop-at l = record {
  from : l.from ≤ l.at;
  within : l.at ≤ length l.text;
  found : (left : Stretches) → ReadsStretches (drop l.from l.text) left → IsFound l.text l.from left (found.Items l.at);
}

abbrev pub decreases-loop-at : goal.decreases-loop-at
decreases-loop-at l = length l.text - l.at
