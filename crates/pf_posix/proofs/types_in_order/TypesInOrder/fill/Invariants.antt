use Rattle.std.proofs.Common.{◌-◌, List, length}
use Rattle.pf_posix.specs.declared.types.WholeArgType.{WholeArgType}
use Rattle.pf_posix.specs.ListComparisons.{HasLeft}
use Rattle.pf_posix.proofs.types_in_order.TypesInOrder.fill.Given as goal

abbrev pub invariant-loop-self : goal.invariant-loop-self
invariant-loop-self l = (types : List WholeArgType) → HasLeft l.model l.fn.self types → HasLeft l.model l.self types

abbrev pub decreases-loop-self : goal.decreases-loop-self
decreases-loop-self l = length l.self.text.now - l.self.at
