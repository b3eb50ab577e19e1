use Rattle.std.proofs.Common.{◌∙◌, ap, inl, refl, subst, sym}
use Rattle.fmtcanon.specs.Answers.{IsAnswer, IsQuestionFault}
use Rattle.fmtcanon.specs.Outcomes.{outcome_of, status_of}
use Rattle.fmtcanon.specs.declared.answer.Ending.TheVariants.{Done}
use Rattle.fmtcanon.proofs.ReplyLemmas.{fault_digit, reply_added}
use Rattle.fmtcanon.proofs.replies.Replies.add.Goals as goal

pub returns-in-Ok : goal.returns-in-Ok
returns-in-Ok c =
    let push = c.push.ensures in
    let (bytes, format, answer) = c.in-Ok.ensures in
    let found = subst (λ q. IsAnswer q c.in-Ok.bytes.items Done) (sym c.in-One.is) (bytes, format, answer, refl) in
    let is = subst (λ t. IsAnswer c.args.question.now t Done) (sym c.deref.ensures.value) found in
    λ asked formats sent replies about h. reply_added asked formats sent replies _ _ h push.written c.args.question.now about c.deref.result.now
    (outcome_of Done) (inl (Done, is, refl)) c.status.result c.status.ensures c.push.result push.bytes push.greatest push.none push.same

pub push_failed-requires : goal.push_failed-requires
push_failed-requires c =
    fault_digit c.args.question.now c.in-Err.failed (subst (λ q. IsQuestionFault q c.in-Err.failed) (sym c.in-One.is) c.in-Err.ensures)

pub returns-in-Err : goal.returns-in-Err
returns-in-Err c =
    let fault = subst (λ q. IsQuestionFault q c.in-Err.failed) (sym c.in-One.is) c.in-Err.ensures in
    λ asked formats sent replies about h. c.push_failed.ensures c.args.question.now asked formats sent replies fault about h

pub returns-in-Ok-answer_to : goal.returns-in-Ok-answer_to
returns-in-Ok-answer_to c =
    let push = c.push-in-Ok-answer_to.ensures in
    let answer = c.in-Ok-answer_to.answer in
    let is = subst (λ t. IsAnswer c.args.question.now t answer.ending) (sym c.as_bytes.ensures) c.in-Ok-answer_to.ensures in
    λ asked formats sent replies about h. reply_added asked formats sent replies _ _ h push.written c.args.question.now about c.as_bytes.result.now
    (outcome_of answer.ending) (inl (answer.ending, is, refl)) c.status-in-Ok-answer_to.result
    (c.status-in-Ok-answer_to.ensures ∙ ap status_of c.outcome.ensures.value) c.push-in-Ok-answer_to.result push.bytes push.greatest push.none push.same

pub push_failed-requires-in-Err-answer_to : goal.push_failed-requires-in-Err-answer_to
push_failed-requires-in-Err-answer_to c = fault_digit c.args.question.now c.in-Err-answer_to.failed c.in-Err-answer_to.ensures

pub returns-in-Err-answer_to : goal.returns-in-Err-answer_to
returns-in-Err-answer_to c = λ asked formats sent replies about h.
    c.push_failed-in-Err-answer_to.ensures c.args.question.now asked formats sent replies c.in-Err-answer_to.ensures about h
