-- What a report leaves.
use Rattle.std.proofs.Common.{inl, inr}
use Rattle.std.specs.Prelude.{Result, Ok, Err}
use Rattle.pf_values.specs.declared.counted.Counted.{Counted}
use Rattle.pf_values.specs.declared.writes.ShortWrite.{ShortWrite}
use Rattle.pf_values.specs.Counting.{Known, Writes}
use Rattle.pf_values.specs.meaning.Text.{Text}
use Rattle.fmtcanon.specs.Reports.{WritesReport}

-- whatever the writer answered
pub reports : {W : Type 0} (contents : W → Known) (old new : Counted W) (text : Text) (answered : Result (Unit {0}) ShortWrite)
    → Writes contents old new text answered → WritesReport contents old new text
reports contents old new text (Ok done) h = inl h
reports contents old new text (Err short) h = inr (short.written, h.1, h.0)
