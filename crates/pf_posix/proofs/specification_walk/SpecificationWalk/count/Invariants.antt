use Rattle.std.proofs.Common.{◌≡◌, ◌-◌, List, length}
use Rattle.pf_values.specs.meaning.Text.{Text}
use Rattle.pf_posix.specs.declared.directive_spans.DirectiveSpan.{DirectiveSpan}
use Rattle.pf_posix.specs.declared.specification_spans.SpecificationSpan.{SpecificationSpan}
use Rattle.pf_posix.specs.SpecificationWalks.{IsAhead}
use Rattle.pf_posix.proofs.SpecificationWalkLemmas.{AreBehind}
use Rattle.pf_posix.proofs.specification_walk.SpecificationWalk.count.Given as goal

abbrev pub invariant-loop-count : goal.invariant-loop-count
invariant-loop-count l = (t : Text) (all done : List DirectiveSpan) → IsAhead t l.self all done
    → (spans : List SpecificationSpan) × AreBehind t l.walk all done spans × (length spans ≡ l.count)

abbrev pub decreases-loop-count : goal.decreases-loop-count
decreases-loop-count l = length l.self.text.now - l.walk.walk.at
