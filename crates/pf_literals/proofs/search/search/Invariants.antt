use Rattle.std.proofs.Common.{◌-◌, ◌≤◌, length}
use Rattle.pf_literals.specs.Verbatim.{IsVerbatimBetween}
use Rattle.pf_literals.proofs.search.search.Given as goal

abbrev pub invariant-loop-at : goal.invariant-loop-at
invariant-loop-at l = (l.at ≤ length l.text) × IsVerbatimBetween l.text 0 l.at

abbrev pub decreases-loop-at : goal.decreases-loop-at
decreases-loop-at l = length l.text - l.at
