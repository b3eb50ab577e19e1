use Rattle.pf_canon.proofs.CopyLemmas.{put_gathered}
use Rattle.pf_canon.proofs.copy.write_block.Goals as goal

pub returns-in-Ok : goal.returns-in-Ok
returns-in-Ok g c =
    let call = c.gather_block-taken in
    let (more, gathered, taken) = call.ensures in (
      more,
      put_gathered g.W.Write.contents c.args.w.now call.new.w c.put.new.w more call.new.buffer.items c.args.count c.in-Ok.count c.put.result
          (rw (c.new-buffer.ensures, c.in-Ok.is) at gathered) (rw c.deref.ensures.0 at c.put.ensures),
      taken,
    )

pub returns-in-Err : goal.returns-in-Err
returns-in-Err g c =
    let (more, gathered, taken) = c.gather_block-taken.ensures in
    (more, rw (c.new-buffer.ensures, c.in-Err.is) at gathered, taken)
