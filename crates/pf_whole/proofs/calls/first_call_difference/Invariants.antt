use Rattle.std.proofs.Common.{◌-◌, length}
use Rattle.pf_whole.proofs.CallLoops.{IsCallsUpTo}
use Rattle.pf_whole.proofs.calls.first_call_difference.Given as goal

abbrev pub invariant-loop-call : goal.invariant-loop-call
invariant-loop-call l = IsCallsUpTo l.model l.first l.second l.one l.two

abbrev pub decreases-loop-call : goal.decreases-loop-call
decreases-loop-call l = length l.first - l.one.at
