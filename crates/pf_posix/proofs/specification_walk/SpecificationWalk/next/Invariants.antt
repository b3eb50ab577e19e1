use Rattle.std.proofs.Common.{◌≤◌, ◌-◌, List, length}
use Rattle.pf_values.specs.meaning.Text.{Text}
use Rattle.pf_posix.specs.declared.directive_spans.DirectiveSpan.{DirectiveSpan}
use Rattle.pf_posix.specs.SpecificationWalks.{IsAhead}
use Rattle.pf_posix.proofs.specification_walk.SpecificationWalk.next.Given as goal

abbrev pub invariant-loop-self : goal.invariant-loop-self
invariant-loop-self l = ((t : Text) (all done : List DirectiveSpan) → IsAhead t l.fn.self all done → IsAhead t l.self all done)
    × (l.fn.self.walk.at ≤ l.self.walk.at)

abbrev pub decreases-loop-self : goal.decreases-loop-self
decreases-loop-self l = length l.self.text.now - l.self.walk.at
