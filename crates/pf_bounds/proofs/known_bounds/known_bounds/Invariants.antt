use Rattle.std.proofs.Common.{◌≡◌, ◌-◌, ◌≤◌, length, take}
use Rattle.pf_values.specs.declared.limits.TheConstants.{MAX_TEXT_LEN}
use Rattle.pf_text.specs.Walks.{IsWalkOver}
use Rattle.pf_bounds.specs.Tallies.{IsTallied}
use Rattle.pf_bounds.proofs.known_bounds.known_bounds.Given as goal

abbrev pub invariant-loop-model : goal.invariant-loop-model
invariant-loop-model l = record {
  over : IsWalkOver l.text l.walk;
  at : l.walk.at ≡ l.from;
  within : l.from ≤ length l.text;
  tallied : IsTallied l.model (take l.from l.text) l.sum;
}

abbrev pub decreases-loop-model : goal.decreases-loop-model
decreases-loop-model l = length (take MAX_TEXT_LEN l.text) - l.walk.at
