use Rattle.std.proofs.Common.{◌++◌, [], ◌∷◌, Ok, refl, subst, sym}
use Rattle.fmtcanon.specs.RecordRuns.{AddsReply, HasFirst}
use Rattle.fmtcanon.proofs.RecordLemmas.{ended, kept, refused}
use Rattle.fmtcanon.proofs.record_answers.RecordAnswers.take.Goals as goal

pub returns-in-Ok-true : goal.returns-in-Ok-true
returns-in-Ok-true g c = λ asked start whole h.
    let text = c.args.text.now in
    let old = c.args.self.now in
    let adds = c.in-Ok-true.ensures.said asked h.first h.said.sent h.replies h.held h.said.has in
    let held = subst (λ p. HasFirst p asked h.first) (sym c.answer.ensures.partial) h.held in
    ended asked g.W.Write.contents old start c.args.writer.now whole h text c.answer.new.self.replies c.write_block.new.self
    c.write_block.new.writer c.write_block.result
    (subst (λ b. AddsReply asked (h.first ++ text ∷ []) h.said.sent h.replies old.replies c.answer.new.self.replies (Ok b))
    c.in-Ok-true.field-0-test adds)
    (λ replies said. c.write_block.ensures.said start replies said)
    (subst (λ p. HasFirst p asked []) (sym c.write_block.ensures.partial) (c.clear.ensures asked h.first held))

pub returns-in-Ok : goal.returns-in-Ok
returns-in-Ok g c = λ asked start whole h.
    let text = c.args.text.now in
    let old = c.args.self.now in
    let replies = c.answer.new.self.replies in
    let held = subst (λ p. HasFirst p asked h.first) (sym c.answer.ensures.partial) h.held in
    let adds = subst (λ b. AddsReply asked (h.first ++ text ∷ []) h.said.sent h.replies old.replies replies (Ok b))
    c.in-Ok-false.field-0-test (c.in-Ok-false.ensures.said asked h.first h.said.sent h.replies h.held h.said.has) in
    kept asked g.W.Write.contents old start c.args.writer.now whole h text replies
    (record { partial = c.keep_first.new.self; replies = replies }) adds refl (c.in-Ok.ensures asked h.first held adds.0)

pub returns-in-Err : goal.returns-in-Err
returns-in-Err g c = λ asked start whole h.
    refused asked g.W.Write.contents c.args.self.now start c.args.writer.now whole h c.answer.new.self (c.args.text.now ∷ [])
    (c.in-Err.ensures.said asked h.first h.said.sent h.replies h.held h.said.has)
