use Rattle.std.proofs.Common.{[], ◌∷◌, refl, subst}
use Rattle.fmtcanon.specs.Records.{AreReplies}
use Rattle.fmtcanon.proofs.RecordLemmas.{none_left, one_left, out_all, out_first}
use Rattle.fmtcanon.proofs.record_answers.RecordAnswers.finish.Goals as goal

pub returns-in-Err : goal.returns-in-Err
returns-in-Err g c = λ asked start whole h.
    out_first asked g.W.Write.contents start _ whole h.replies h.first h.are c.in-Err.count (c.in-Err.ensures.said start h.replies h.said)

pub returns-then-self : goal.returns-then-self
returns-then-self g c =
    let partial = c.args.self.now.partial in
    let out = c.in_default.ensures in
    λ asked start whole h.
    let left = one_left asked partial h.first h.held c.if-self.true in
    let are = subst (AreReplies asked whole h.replies) left.0 h.are in (
      partial.first.items,
      _,
      left.1,
      out_all asked g.W.Write.contents start _ whole h.replies (partial.first.items ∷ []) are
          c.flush.new.self _ (out.said start h.replies h.said) out.none out.flushed refl,
    )

pub returns : goal.returns
returns g c =
    let partial = c.args.self.now.partial in
    let out = c.in_default.ensures in
    λ asked start whole h.
    let are = subst (AreReplies asked whole h.replies) (none_left asked partial h.first h.held c.if-self.false) h.are in
    out_all asked g.W.Write.contents start _ whole h.replies [] are c.flush.new.self _ (out.said start h.replies h.said) out.none
    out.flushed c.greatest.ensures
