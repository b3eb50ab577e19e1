use Rattle.std.proofs.Common.{◌≤◌, ◌-◌}
use Rattle.std.specs.Prelude.{flat_map}
use Rattle.pf_values.specs.meaning.Canonical.{item_spelling}
use Rattle.pf_text.specs.CanonicalRuns.{silents}
use Rattle.pf_canon.proofs.sink.put_silents.Given as goal

-- those that are not left were put
abbrev pub invariant-loop-left : goal.invariant-loop-left
invariant-loop-left g l = record {
  within : l.left ≤ l.times;
  put : g.S.Sink.given l.fn.sink l.sink (flat_map item_spelling (silents (l.times - l.left)));
}

abbrev pub decreases-loop-left : goal.decreases-loop-left
decreases-loop-left g l = l.left

abbrev pub invariant-loop-left-2 : goal.invariant-loop-left-2
invariant-loop-left-2 g l = record {
  within : l.left ≤ l.times;
  put : g.S.Sink.given l.fn.sink l.sink (flat_map item_spelling (silents (l.times - l.left)));
}

abbrev pub decreases-loop-left-2 : goal.decreases-loop-left-2
decreases-loop-left-2 g l = l.left
