use Rattle.std.proofs.Common.{◌≡◌, ◌++◌, ◌-◌, ◌≤◌, None, replicate}
use Rattle.pf_whole.proofs.verdicts.push_any.Given as goal

abbrev pub invariant-loop-left : goal.invariant-loop-left
invariant-loop-left l = (l.shown.items ≡ l.initial.shown.items ++ replicate (l.count - l.left) None) × (l.left ≤ l.count)

abbrev pub decreases-loop-left : goal.decreases-loop-left
decreases-loop-left l = l.left
