use Rattle.fmtcanon.proofs.ReplyLemmas.{said_unflushed}
use Rattle.fmtcanon.proofs.replies.Replies.flush.Goals as goal

pub returns-in-Err-clause-said : goal.returns-in-Err-clause-said
returns-in-Err-clause-said g c =
    λ start replies h. said_unflushed g.W.Write.contents start _ _ c.write.new.self replies (c.in_ok-write.ensures.said start replies h)
    c.in_ok-write.ensures.none c.in-Err.ensures.bytes c.in-Err.ensures.failures
