use Rattle.std.proofs.Common.{◌≡◌, ◌-◌, length}
use Rattle.pf_text.specs.Walks.{IsWalk}
use Rattle.pf_posix.proofs.NumberedLemmas.{IsTabledTo}
use Rattle.pf_posix.proofs.numbered.numbered_arguments.Given as goal

abbrev pub invariant-loop-model : goal.invariant-loop-model
invariant-loop-model l = record {
  walk : IsWalk l.walk;
  text : l.walk.text.now ≡ l.at_first.text.now;
  same : length l.out ≡ length l.fn.out;
  tabled : IsTabledTo l.model l.walk.text.now l.walk.at l.table;
}

abbrev pub decreases-loop-model : goal.decreases-loop-model
decreases-loop-model l = length l.walk.text.now - l.walk.at
