use Rattle.std.proofs.Common.{◌-◌, length}
use Rattle.pf_text.proofs.ReadingLemmas.{HasReadFrom}
use Rattle.pf_text.proofs.checking.items_end_from.Given as goal

abbrev pub invariant-loop-walk : goal.invariant-loop-walk
invariant-loop-walk g l = HasReadFrom g.P.Passed.passes l.fn.walk l.walk

abbrev pub decreases-loop-walk : goal.decreases-loop-walk
decreases-loop-walk g l = length l.fn.walk.text.now - l.walk.at
