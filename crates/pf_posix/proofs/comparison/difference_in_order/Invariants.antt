use Rattle.std.proofs.Common.{◌-◌}
use Rattle.pf_posix.proofs.DifferenceLemmas.{AreComparedTo}
use Rattle.pf_posix.proofs.comparison.difference_in_order.Given as goal

abbrev pub invariant-loop-index : goal.invariant-loop-index
invariant-loop-index l = AreComparedTo l.model l.first l.second l.count l.second_count l.one l.other l.index

abbrev pub decreases-loop-index : goal.decreases-loop-index
decreases-loop-index l = l.least - l.index
