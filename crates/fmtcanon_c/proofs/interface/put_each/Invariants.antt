use Rattle.std.proofs.Common.{length, ◌-◌, ◌≡◌, ◌≤◌, ◌++◌, drop, map, take}
use Rattle.fmtcanon_c.proofs.interface.put_each.Given as goal

-- the codes so far, and the rest of the buffer as it was
abbrev pub invariant-loop-at : goal.invariant-loop-at
invariant-loop-at g l = (l.at ≤ length l.values) × (l.out ≡ map g.V.Coded.code_of (take l.at l.values) ++ drop l.at l.fn.out)

abbrev pub decreases-loop-at : goal.decreases-loop-at
decreases-loop-at g l = length l.values - l.at
