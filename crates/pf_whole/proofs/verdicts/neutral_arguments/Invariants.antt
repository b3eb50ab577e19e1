use Rattle.std.proofs.Common.{◌-◌, length}
use Rattle.pf_whole.proofs.ShownLoops.{IsShownNeutrally}
use Rattle.pf_whole.proofs.verdicts.neutral_arguments.Given as goal

abbrev pub invariant-loop-stretch : goal.invariant-loop-stretch
invariant-loop-stretch l = IsShownNeutrally l.model l.text l.at l.shown.items

abbrev pub decreases-loop-stretch : goal.decreases-loop-stretch
decreases-loop-stretch l = length l.text - l.at
