use Rattle.std.proofs.Common.{inr, rules}
use Rattle.fmtcanon.proofs.ReplyLemmas.{reply_added}
use Rattle.fmtcanon.proofs.replies.Replies.push_failed.Goals as goal

pub returns-in_default : goal.returns-in_default
returns-in_default c =
    let push = c.push.ensures in
    λ question asked formats sent replies fault about h. reply_added asked formats sent replies _ _ h push.written question about _
    c.args.failed.now (inr (fault, c.in_default.not-Memory, search rules)) c.status.result c.status.ensures c.push.result push.bytes push.greatest push.none push.same
