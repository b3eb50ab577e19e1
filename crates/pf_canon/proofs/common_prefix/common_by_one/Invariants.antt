use Rattle.std.proofs.Common.{◌-◌}
use Rattle.pf_canon.specs.Comparison.{AreCommon}
use Rattle.pf_canon.proofs.common_prefix.common_by_one.Given as goal

abbrev pub invariant-loop-at : goal.invariant-loop-at
invariant-loop-at l = record { common : AreCommon l.x l.y l.at }

abbrev pub decreases-loop-at : goal.decreases-loop-at
decreases-loop-at l = l.most - l.at
