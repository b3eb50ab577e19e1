use Rattle.std.proofs.Common.{refl}
use Rattle.fmtcanon.proofs.RecordLemmas.{written}
use Rattle.fmtcanon.proofs.records.RecordRun.flush.Goals as goal

pub returns-clause-said : goal.returns-clause-said
returns-clause-said g c = λ asked start whole rest h.
    written asked g.W.Write.contents c.args.self.now start c.args.writer.now whole rest h c.flush.result _ c.flush.new.writer refl refl
    (λ replies said. c.flush.ensures.said start replies said)
