use Rattle.std.proofs.Common.{refl, subst}
use Rattle.fmtcanon.specs.RecordRuns.{HasStopped}
use Rattle.fmtcanon.proofs.RecordLemmas.{out_all, out_first}
use Rattle.fmtcanon.proofs.record_answers.RecordAnswers.break_off.Goals as goal

pub returns-in-Ok : goal.returns-in-Ok
returns-in-Ok g c =
    let k = g.W.Write.contents in
    λ asked start records h.
    let at = subst (HasStopped asked k c.args.self.now start c.args.writer.now records) c.in-Memory.is h in
    let out = c.in-Ok.ensures in (
      at.1,
      c.flush.new.self.greatest,
      out_all asked k start _ records at.0 at.1 at.2 c.flush.new.self _
          (out.said start at.0 at.3) out.none out.flushed refl,
    )

pub returns-in-Err : goal.returns-in-Err
returns-in-Err g c =
    let k = g.W.Write.contents in
    λ asked start records h.
    let at = subst (HasStopped asked k c.args.self.now start c.args.writer.now records) c.in-Memory.is h in
    out_first asked k start _ records at.0 at.1 at.2 c.in-Err.count (c.in-Err.ensures.said start at.0 at.3)
