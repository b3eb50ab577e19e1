use Rattle.std.proofs.Common.{◌∙◌, ◌++◌, [], sym, subst}
use Rattle.std.specs.Prelude.{MatchResult}
use Rattle.fmtcanon.specs.RecordRuns.{HasStopped, HasRepliedTo}
use Rattle.fmtcanon.proofs.RecordLemmas.{last_none, last_some}
use Rattle.fmtcanon.proofs.records.RecordRun.end_last.Goals as goal

pub returns-then-not-has_part : goal.returns-then-not-has_part
returns-then-not-has_part g c = λ asked start whole rest h.
    last_none asked g.W.Write.contents c.args.self.now start c.args.writer.now whole rest (h.part_is ∙ c.if-not-has_part.ensures) h

pub returns : goal.returns
returns g c =
    let k = g.W.Write.contents in
    let new = c.end_record.new in
    λ asked start whole rest h.
    let some = last_some rest (λ none. c.if-not-has_part.ensures (sym h.part_is ∙ none)) in
    subst (λ last. MatchResult c.end_record.result (λ _. HasRepliedTo asked k new.self start new.writer (whole ++ last) [])
    (HasStopped asked k new.self.answers start new.writer (whole ++ last))) (sym some) (c.end_record.ensures asked start whole rest h)
