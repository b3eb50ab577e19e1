use Rattle.fmtcanon.proofs.StreamLemmas.{one_flush, read_well, stop_kept}
use Rattle.fmtcanon.proofs.run.copy.Goals as goal

pub returns-in-Err-Refused : goal.returns-in-Err-Refused
returns-in-Err-Refused g c =
    let stop = c.in-Err-Refused in (
      stop_kept c.args.model _ _ _ _ _ stop.field-0 stop.refusal stop.field-0-is c.flush-in-Err-Refused.ensures.bytes stop.ensures.copied,
      read_well (g.I.Input.reader_of c.args.input.now) (g.I.Input.reader_of c.copy_all.new.self) stop.field-0 stop.refusal stop.field-0-is stop.ensures.reads,
      (
        one_flush c.args.writer.now c.copy_all.new.writer c.flush-in-Err-Refused.new.self stop.field-0 stop.refusal _ stop.field-0-is stop.ensures.writes
            c.flush-in-Err-Refused.ensures.failures,
        c.flush-in-Err-Refused.ensures.flushed,
      ),
    )
