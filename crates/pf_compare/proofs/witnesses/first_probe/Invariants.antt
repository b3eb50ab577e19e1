use Rattle.std.proofs.Common.{List, ◌-◌, length}
use Rattle.pf_values.specs.meaning.Items.{Item, Reads}
use Rattle.pf_compare.specs.Spans.{HaveGivenSpans}
use Rattle.pf_compare.proofs.ProbeLemmas.{AreTriedTo}
use Rattle.pf_compare.proofs.witnesses.first_probe.Given as goal

abbrev pub invariant-loop-one : goal.invariant-loop-one
invariant-loop-one l = record {
  first : HaveGivenSpans l.model l.first_spans l.first l.index;
  second : HaveGivenSpans l.model l.second_spans l.second l.index;
  tried : (xs ys : List Item) → Reads l.first xs → Reads l.second ys → AreTriedTo l.model xs ys l.index;
}

abbrev pub decreases-loop-one : goal.decreases-loop-one
decreases-loop-one l = length l.first - l.index
