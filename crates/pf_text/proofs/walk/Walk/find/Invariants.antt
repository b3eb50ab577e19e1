use Rattle.std.proofs.Common.{◌-◌, length}
use Rattle.pf_text.specs.Walks.{HasWalked}
use Rattle.pf_text.proofs.walk.Walk.find.Given as goal

abbrev pub invariant-loop-self : goal.invariant-loop-self
invariant-loop-self g l = HasWalked g.P.Passed.passes l.fn.self l.self

abbrev pub decreases-loop-self : goal.decreases-loop-self
decreases-loop-self g l = length l.self.text.now - l.self.at
