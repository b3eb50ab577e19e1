use Rattle.std.proofs.Common.{◌≡◌, ◌++◌}
use Rattle.pf_values.specs.Counting.{device_of, failures_of}
use Rattle.pf_values.specs.meaning.Text.{Text}
use Rattle.pf_canon.specs.CanonicalBytes.{StreamHistory, reader_of}
use Rattle.pf_canon.proofs.laws.whole_run.Given as goal

-- of what was taken `given` was given, and appended
abbrev pub invariant-loop-stream : goal.invariant-loop-stream
invariant-loop-stream g l = record {
  can_next : (goal.iterator-loop-stream g).can_next l.stream;
  is_finite : (goal.iterator-loop-stream g).is_finite l.stream;
  kept : failures_of (reader_of l.stream) ≡ failures_of l.fn.reader;
  run : ((taken given : Text) × StreamHistory l.fn.model g.R.Read.remaining l.stream (g.R.Read.remaining (device_of l.fn.reader)) taken given
      × (l.out.items ≡ l.fn.out.items ++ given));
}
