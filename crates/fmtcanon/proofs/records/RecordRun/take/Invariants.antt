use Rattle.std.proofs.Common.{◌-◌, ◌++◌, ◌≤◌, length, take}
use Rattle.pf_values.specs.declared.counted.Counted.{Counted}
use Rattle.pf_values.specs.meaning.Text.{Text}
use Rattle.fmtcanon.specs.RecordRuns.{HasRepliedToText}
use Rattle.fmtcanon.specs.declared.questions.RecordQuestion.{RecordQuestion}
use Rattle.fmtcanon.proofs.records.RecordRun.take.Given as goal

-- what has been taken of the block
abbrev pub invariant-loop-len : goal.invariant-loop-len
invariant-loop-len g l = record {
  within : l.at ≤ length l.block;
  at : ((asked : RecordQuestion) (start : Counted g.row.W.Denot) (taken : Text)
      → HasRepliedToText asked g.W.Write.contents l.fn.self start l.fn.writer taken
      → HasRepliedToText asked g.W.Write.contents l.self start l.writer (taken ++ take l.at l.block));
}

abbrev pub decreases-loop-len : goal.decreases-loop-len
decreases-loop-len g l = length l.block - l.at
