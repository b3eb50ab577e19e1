use Rattle.std.proofs.Common.{◌-◌, ◌≡◌, ◌≤◌, length}
use Rattle.pf_text.specs.Walks.{IsWalkOver}
use Rattle.pf_posix.specs.Listings.{IsListedFront}
use Rattle.pf_posix.proofs.listings.directives_within.Given as goal

abbrev pub invariant-loop-model : goal.invariant-loop-model
invariant-loop-model l = record {
  over : IsWalkOver l.text l.walk;
  within : l.walk.at ≤ length l.walk.text.now;
  few : l.count ≤ l.walk.at;
  few_fetched : l.fetched ≤ l.walk.at;
  same : length l.out ≡ length l.fn.out;
  front : IsListedFront l.model l.walk.text.now l.walk.at l.fn.out l.out l.count l.fetched;
}

abbrev pub decreases-loop-model : goal.decreases-loop-model
decreases-loop-model l = length l.walk.text.now - l.walk.at
