use Rattle.std.proofs.Common.{◌≡◌, ◌<◌, ◌≤◌, ◌^◌, take}
use Rattle.std.specs.List.{AllByRecursion}
use Rattle.pf_values.specs.declared.models.TheConstants.Model.{ALL}
use Rattle.fmtcanon_c.specs.Calls.{AreModels}
use Rattle.fmtcanon_c.specs.Relations.{AcceptsRelated, AreRelated}
use Rattle.fmtcanon_c.proofs.ModelSums.{weight_after}
use Rattle.fmtcanon_c.proofs.relations.related_models.Given as goal

abbrev pub invariant-loop-model : goal.invariant-loop-model
invariant-loop-model l = record {
  related : AreModels (λ model. AreRelated l.relation model l.first l.second) 1 (take l.model-index ALL) l.sum;
  weight : l.weight ≡ weight_after 1 (take l.model-index ALL);
  below : l.sum < l.weight;
  small : l.weight ≤ 2 ^ l.model-index;
  accepted : AllByRecursion (AcceptsRelated l.relation l.first l.second) (take l.model-index ALL);
}
