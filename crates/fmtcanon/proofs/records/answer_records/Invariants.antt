use Rattle.std.proofs.Common.{◌≤◌}
use Rattle.pf_values.specs.Counting.{calls_of}
use Rattle.fmtcanon.specs.RecordRuns.{HasAnswered}
use Rattle.fmtcanon.proofs.records.answer_records.Given as goal

-- what has been taken, and the replies to it
abbrev pub invariant-loop-turn : goal.invariant-loop-turn
invariant-loop-turn g l = record {
  calls : l._turn ≤ calls_of (g.I.Input.reader_of l.input);
  at : HasAnswered l.fn.asked g.R.Read.remaining g.W.Write.contents l.run (g.I.Input.reader_of l.fn.input) (g.I.Input.reader_of l.input) l.fn.writer l.writer;
}
