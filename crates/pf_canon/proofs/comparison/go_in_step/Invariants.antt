use Rattle.pf_values.specs.declared.models.Model.{Model}
use Rattle.pf_values.specs.meaning.Text.{Text}
use Rattle.pf_canon.specs.CanonicalSlices.{SlicesHaveGiven, to_come}
use Rattle.pf_canon.proofs.comparison.go_in_step.Given as goal

abbrev pub invariant-loop-count : goal.invariant-loop-count
invariant-loop-count g l = record {
  given : ((model : Model) (t u given : Text) → SlicesHaveGiven g.L.Language.has_front g.L.Language.refuses model l.fn.first t given
      → SlicesHaveGiven g.L.Language.has_front g.L.Language.refuses model l.fn.second u given
      → (now : Text) × SlicesHaveGiven g.L.Language.has_front g.L.Language.refuses model l.first t now
      × SlicesHaveGiven g.L.Language.has_front g.L.Language.refuses model l.second u now);
}

abbrev pub decreases-loop-count : goal.decreases-loop-count
decreases-loop-count g l = to_come l.first
