use Rattle.std.proofs.Common.{◌∙◌, ◌++◌, [], ◌∷◌, subst, sym}
use Rattle.fmtcanon.specs.RecordRuns.{HasStopped}
use Rattle.fmtcanon.proofs.records.RecordRun.end_record.Goals as goal

pub returns-in-Err : goal.returns-in-Err
returns-in-Err g c = λ asked start whole rest h.
    subst (λ t. HasStopped asked g.W.Write.contents c.take.new.self start c.take.new.writer (whole ++ t ∷ []) c.in-Err.fault)
    (c.deref.ensures.value ∙ sym h.part_is) (c.in-Err.ensures asked start whole h.to)
