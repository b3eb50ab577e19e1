use Rattle.std.proofs.Common.{◌≤◌}
use Rattle.pf_values.specs.declared.models.Model.{Model}
use Rattle.pf_values.specs.meaning.Text.{Text}
use Rattle.pf_canon.specs.CanonicalSlices.{AreSlices, SlicesHaveGiven, to_come, to_take}
use Rattle.pf_canon.proofs.canonical_slices.CanonicalSlices.fill.Given as goal

abbrev pub invariant-loop-self : goal.invariant-loop-self
invariant-loop-self g l = record {
  slices : AreSlices g.L.Language.has_front g.L.Language.refuses l.self;
  given : ((model : Model) (text given : Text) → SlicesHaveGiven g.L.Language.has_front g.L.Language.refuses model l.fn.self text given
      → SlicesHaveGiven g.L.Language.has_front g.L.Language.refuses model l.self text given);
  fewer : to_come l.self ≤ to_come l.fn.self;
}

abbrev pub decreases-loop-self : goal.decreases-loop-self
decreases-loop-self g l = to_take l.self
