-- One step of a run over records through a block.
use Rattle.std.proofs.Common.{◌≡◌, ℕ, ◌+◌, ◌++◌, [], ◌∷◌, List, None, Some, append_assoc, drop, subst, sym, take}
use Rattle.memchr.specs.Find.{IsFirstByte, is_byte}
use Rattle.pf_values.specs.declared.counted.Counted.{Counted}
use Rattle.pf_values.specs.Counting.{Known}
use Rattle.pf_values.specs.meaning.Text.{Text}
use Rattle.fmtcanon.specs.RecordRuns.{HasReplies, HasStopped, HasStoppedAt, HasRepliedTo, HasRepliedToText}
use Rattle.fmtcanon.specs.Records.{IsRecords, last_record}
use Rattle.fmtcanon.specs.declared.questions.RecordQuestion.{RecordQuestion}
use Rattle.fmtcanon.specs.declared.record_answers.RecordAnswers.{RecordAnswers}
use Rattle.fmtcanon.specs.declared.record_answers.RecordRunFault.{RecordRunFault}
use Rattle.fmtcanon.specs.declared.record_answers.RecordRunFault.TheVariants.{Memory}
use Rattle.fmtcanon.specs.declared.records.RecordRun.{RecordRun}
use Rattle.fmtcanon.proofs.RecordLemmas.{longer, refused, stopped_more}
use Rattle.fmtcanon.proofs.RecordTexts.{cut_behind, cut_found, cut_last}

module _ (asked : RecordQuestion) {W : Type 0} (contents : W → Known) (r : RecordRun) (start now : Counted W) (taken block : Text) (at : ℕ)
    (h : HasRepliedToText asked contents r start now (taken ++ take at block)) where
  module _ (len : ℕ) (found : IsFirstByte (is_byte 0) (drop at block) (Some len)) (bytes : Text)
      (bytes_are : bytes ≡ take len (drop at block)) (new : RecordRun) (w : Counted W) where
    -- a record was taken
    pub record_taken : ((whole : List Text) (rest : Text) → HasRepliedTo asked contents r start now whole rest
        → HasRepliedTo asked contents new start w (whole ++ (rest ++ bytes) ∷ []) [])
        → HasRepliedToText asked contents new start w (taken ++ take (at + (len + 1)) block)
    record_taken step =
        let whole = h.0 in
        let rest = h.1 in
        let next : Text → List Text = λ b. whole ++ (rest ++ b) ∷ [] in
        let cut = subst (λ b. IsRecords (taken ++ take (at + (len + 1)) block) (next b) []) (sym bytes_are)
        (cut_found taken block whole rest at h.2 len found) in
        (next bytes, [], cut, step whole rest h.3)

    -- the run stopped there
    pub record_stopped : (stop : RecordRunFault) → ((whole : List Text) (rest : Text) → HasRepliedTo asked contents r start now whole rest
        → HasStopped asked contents new.answers start w (whole ++ (rest ++ bytes) ∷ []) stop)
        → HasStoppedAt asked contents new.answers start w (taken ++ block) stop
    record_stopped stop step =
        let whole = h.0 in
        let rest = h.1 in
        let records = whole ++ (rest ++ bytes) ∷ [] in
        let cut = subst (λ b. IsRecords (taken ++ take (at + (len + 1)) block) (whole ++ (rest ++ b) ∷ []) []) (sym bytes_are)
        (cut_found taken block whole rest at h.2 len found) in
        let all = cut_behind taken block records [] (at + (len + 1)) cut in
        let stopped = stopped_more asked contents start w new.answers records (all.0 ++ last_record all.1) stop (step whole rest h.3) in (
          records ++ all.0,
          all.1,
          all.2,
          subst (λ rs. HasStopped asked contents new.answers start w rs stop) (sym (append_assoc records all.0 (last_record all.1))) stopped,
        )

  module _ (none : IsFirstByte (is_byte 0) (drop at block) None) (new : RecordRun) (same : new.answers ≡ r.answers) where
    -- the last part of the block was taken
    pub part_taken : new.part.items ≡ r.part.items ++ drop at block → HasRepliedToText asked contents new start now (taken ++ block)
    part_taken part = (
      h.0,
      h.1 ++ drop at block,
      cut_last taken block h.0 h.1 at h.2 none,
      longer asked contents r start now h.0 h.1 h.3 new (drop at block) same part,
    )

    -- or memory for it was refused
    pub part_refused : HasStoppedAt asked contents new.answers start now (taken ++ block) Memory
    part_refused =
        let rest = h.1 ++ drop at block in
        let said = h.3.to.said in
        let has = subst (λ (a : RecordAnswers). HasReplies a.replies said.sent h.3.to.replies) (sym same) said.has in (
          h.0,
          rest,
          cut_last taken block h.0 h.1 at h.2 none,
          refused asked contents r.answers start now h.0 h.3.to new.answers (last_record rest) has,
        )
