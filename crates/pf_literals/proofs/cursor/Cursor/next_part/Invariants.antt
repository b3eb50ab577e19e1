use Rattle.std.proofs.Common.{◌≡◌, ◌≤◌, ◌-◌, length}
use Rattle.pf_literals.specs.Walks.{reading_left}
use Rattle.pf_literals.proofs.cursor.Cursor.next_part.Given as goal

abbrev pub invariant-loop-self : goal.invariant-loop-self
invariant-loop-self l = record {
  left : reading_left l.source l.fn.self ≡ reading_left l.source l.self;
  further : l.fn.self.at ≤ l.self.at;
}

abbrev pub decreases-loop-self : goal.decreases-loop-self
decreases-loop-self l = length l.source - l.self.at
