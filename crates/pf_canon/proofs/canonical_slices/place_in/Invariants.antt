use Rattle.std.proofs.Common.{◌-◌, ◌≤◌, length, take}
use Rattle.pf_values.specs.meaning.Text.{Text}
use Rattle.pf_canon.specs.Languages.{IsWrittenIn}
use Rattle.pf_canon.proofs.canonical_slices.place_in.Given as goal

abbrev pub invariant-loop-other : goal.invariant-loop-other
invariant-loop-other g l = record {
  within : l.from ≤ length l.walk.text.now;
  front : (out : Text) × IsWrittenIn g.L.Language.has_front l.fn.model (take l.from l.text) out 0;
}

abbrev pub decreases-loop-other : goal.decreases-loop-other
decreases-loop-other g l = length l.text - l.from
