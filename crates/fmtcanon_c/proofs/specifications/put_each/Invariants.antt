use Rattle.std.proofs.Common.{◌-◌, List, [], length}
use Rattle.pf_values.specs.meaning.Text.{Text}
use Rattle.pf_posix.specs.declared.specification_spans.SpecificationSpan.{SpecificationSpan}
use Rattle.pf_posix.specs.declared.directive_spans.DirectiveSpan.{DirectiveSpan}
use Rattle.pf_posix.specs.SpecificationWalks.{IsAhead}
use Rattle.pf_posix.proofs.SpecificationWalkLemmas.{AreBehind}
use Rattle.fmtcanon_c.proofs.RecordLemmas.{ArePutTo}
use Rattle.fmtcanon_c.proofs.specifications.put_each.Given as goal

abbrev pub invariant-loop-span : goal.invariant-loop-span
invariant-loop-span l = (spans : List SpecificationSpan) × ((t : Text) (all : List DirectiveSpan) → IsAhead t l.fn.walk all []
    → AreBehind t l.walk all [] spans) × ArePutTo l.model spans l.fn.out l.out l.count

abbrev pub decreases-loop-span : goal.decreases-loop-span
decreases-loop-span l = length l.fn.walk.text.now - l.walk.walk.at
