use Rattle.std.proofs.Common.{◌-◌, length}
use Rattle.pf_compare.specs.Spans.{AreTriedBelow}
use Rattle.pf_compare.proofs.witnesses.other_candidate.Given as goal

abbrev pub invariant-loop-index : goal.invariant-loop-index
invariant-loop-index l = AreTriedBelow l.model l.whole l.first l.second l.wanted l.index

abbrev pub decreases-loop-index : goal.decreases-loop-index
decreases-loop-index l = length l.row - l.index
