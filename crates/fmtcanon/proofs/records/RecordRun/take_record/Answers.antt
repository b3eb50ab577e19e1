use Rattle.std.proofs.Common.{◌++◌, ◌∷◌, [], refl, subst, sym}
use Rattle.fmtcanon.specs.RecordRuns.{HasReplies}
use Rattle.fmtcanon.specs.declared.record_answers.RecordAnswers.{RecordAnswers}
use Rattle.fmtcanon.proofs.RecordLemmas.{longer, refused, taken_at_once}
use Rattle.fmtcanon.proofs.records.RecordRun.take_record.Goals as goal

pub returns-then-not-has_part : goal.returns-then-not-has_part
returns-then-not-has_part g c = λ asked start whole rest h.
    taken_at_once asked g.W.Write.contents c.args.self.now start c.args.writer.now whole rest h c.if-not-has_part.ensures c.args.bytes.now _
    c.take.new.writer refl c.take.result (c.take.ensures asked start whole h.to)

pub returns-in-Ok : goal.returns-in-Ok
returns-in-Ok g c = λ asked start whole rest h.
    let bytes = c.args.bytes.now in
    c.end_record.ensures asked start whole (rest ++ bytes)
    (longer asked g.W.Write.contents c.args.self.now start c.args.writer.now whole rest h c.extend.new.self bytes c.in-Ok.ensures.answers
    c.in-Ok.ensures.part)

pub returns-in-Err : goal.returns-in-Err
returns-in-Err g c = λ asked start whole rest h.
    let said = h.to.said in
    let has = subst (λ (a : RecordAnswers). HasReplies a.replies said.sent h.to.replies) (sym c.in-Err.ensures.answers) said.has in
    refused asked g.W.Write.contents c.args.self.now.answers start c.args.writer.now whole h.to c.extend.new.self.answers
    ((rest ++ c.args.bytes.now) ∷ []) has
