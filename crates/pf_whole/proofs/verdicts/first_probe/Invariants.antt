use Rattle.std.proofs.Common.{◌-◌, length}
use Rattle.pf_whole.proofs.ProbeLoops.{AreSearched}
use Rattle.pf_whole.proofs.verdicts.first_probe.Given as goal

abbrev pub invariant-loop-stretch : goal.invariant-loop-stretch
invariant-loop-stretch l = AreSearched l.model l.first l.second l.rest l.from l.found

abbrev pub decreases-loop-stretch : goal.decreases-loop-stretch
decreases-loop-stretch l = length l.first - l.rest.at
