-- What a run over records leaves at its end.
use Rattle.std.proofs.Common.{◌≡◌, ◌++◌, [], List, refl, sym}
use Rattle.std.specs.Prelude.{true}
use Rattle.std.specs.Io.KnownBytes.{Consumes, IsAtEnd}
use Rattle.std.proofs.KnownBytes.{Appends-nil, Consumes-nil}
use Rattle.pf_values.specs.declared.counted.Counted.{Counted}
use Rattle.pf_values.specs.Counting.{Known, device_of, failures_of, is_flushed}
use Rattle.pf_values.specs.meaning.Text.{Text}
use Rattle.fmtcanon.specs.RecordRuns.{HasAnswered, HasFirst, HasReplies, HasRepliedTo, RecordsFinish, RecordsEndEarly, waiting_text}
use Rattle.fmtcanon.specs.Records.{AllReplied, IsRecords, RepliesAll, RecordsEnd, ReadFails, last_record}
use Rattle.fmtcanon.specs.declared.outcome.Outcome.{Outcome}
use Rattle.fmtcanon.specs.declared.outcome.Outcome.TheVariants as outcomes
use Rattle.fmtcanon.specs.declared.questions.RecordQuestion.{RecordQuestion}
use Rattle.fmtcanon.specs.declared.records.RecordRun.{RecordRun}
use Rattle.fmtcanon.proofs.RecordLemmas.{out_all}
use Rattle.fmtcanon.proofs.RecordTexts.{cut_none}

module _ (asked : RecordQuestion) {R W : Type 0} (remaining : R → Known) (contents : W → Known) (reader left : Counted R)
    (old new : Counted W) (taken : Text) (whole : List Text) (rest : Text) (cut : IsRecords taken whole rest)
    (took : Consumes (remaining (device_of reader)) (remaining (device_of left)) taken) where
  -- a write failed, memory was refused
  pub left_stopped : failures_of left ≡ failures_of reader → (outcome : Outcome)
      → RecordsEndEarly asked contents old new (whole ++ last_record rest) outcome
      → RecordsEnd asked remaining contents reader left old new outcome
  left_stopped well outcomes.Memory h = (whole, rest, h.0, h.1, (taken, cut, took), well, h.2)
  left_stopped well (outcomes.Write count) h = (whole, rest, (taken, cut, took), well, h)
  left_stopped well _ h = absurd h

  -- the reader was at its end
  pub left_at_end : failures_of left ≡ failures_of reader → IsAtEnd (remaining (device_of left)) → (outcome : Outcome)
      → RecordsFinish asked contents old new (whole ++ last_record rest) outcome
      → RecordsEnd asked remaining contents reader left old new outcome
  left_at_end well end (outcomes.Answered greatest) h =
      (whole ++ last_record rest, (whole, rest, (taken, cut, took), end, refl), well, h)
  left_at_end well end outcomes.NoSecond h =
      (whole ++ last_record rest, h.0, h.1, (whole, rest, (taken, cut, took), end, refl), well, h.2, h.3)
  left_at_end well end outcomes.Memory h = left_stopped well outcomes.Memory h
  left_at_end well end (outcomes.Write count) h = left_stopped well (outcomes.Write count) h
  left_at_end well end _ h = absurd h

  module _ (run : RecordRun) (h : HasRepliedTo asked contents run old new whole rest) (none : waiting_text run.answers.replies ≡ [])
      (flushed : is_flushed new ≡ true) where
    all_out : RepliesAll asked contents old new whole h.to.first run.answers.replies.greatest
    all_out =
        out_all asked contents old new whole h.to.replies h.to.first h.to.are run.answers.replies run.answers.replies.greatest
        h.to.said none flushed refl

    -- nothing waited, so the input is ready
    pub left_ready : failures_of left ≡ failures_of reader → AllReplied asked remaining contents reader left old new
    left_ready well =
        (whole, rest, h.to.first, run.answers.replies.greatest, (taken, cut, took), well, h.to.held.few, all_out)

    -- a read failed, and nothing waited
    pub left_read : ReadFails asked remaining contents reader left old new
        → RecordsEnd asked remaining contents reader left old new outcomes.Read
    left_read fails =
        (whole, rest, h.to.first, run.answers.replies.greatest, (taken, cut, took), fails, h.to.held.few, all_out)

-- nothing has been taken, and nothing has come
pub at_start : (asked : RecordQuestion) {R W : Type 0} (remaining : R → Known) (contents : W → Known) (begin : Counted R)
    (start : Counted W) (run : RecordRun) → run.part.items ≡ [] → HasFirst run.answers.partial asked []
    → HasReplies run.answers.replies [] [] → HasAnswered asked remaining contents run begin begin start start
at_start asked remaining contents begin start run part held none = record {
  taken = [];
  took = Consumes-nil _;
  well = refl;
  replied = (
    [],
    [],
    cut_none,
    record {
      to = record {
        first = [];
        replies = [];
        are = record { each = tt; to = refl };
        held = held;
        said = record { sent = []; writes = record { appended = Appends-nil _; none_failed = refl }; has = none };
      };
      part_is = sym part;
    },
  );
}
