use Rattle.std.proofs.Common.{◌++◌}
use Rattle.fmtcanon.specs.Records.{last_record}
use Rattle.fmtcanon.proofs.RecordLemmas.{stopped_at_end}
use Rattle.fmtcanon.proofs.records.RecordRun.end.Goals as goal

pub returns-in-Ok : goal.returns-in-Ok
returns-in-Ok g c = λ asked start whole rest h.
    c.finish.ensures asked start (whole ++ last_record rest) (c.in-Ok.ensures asked start whole rest h).to

pub returns-in-Err : goal.returns-in-Err
returns-in-Err g c = λ asked start whole rest h.
    let records = whole ++ last_record rest in
    stopped_at_end asked g.W.Write.contents start _ records c.break_off.result
    (c.break_off.ensures asked start records (c.in-Err.ensures asked start whole rest h))
