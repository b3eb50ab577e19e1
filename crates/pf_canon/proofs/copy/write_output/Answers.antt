use Rattle.pf_canon.specs.Output.{output_text}
use Rattle.pf_canon.proofs.CopyLemmas.{put_gathered}
use Rattle.pf_canon.proofs.copy.write_output.Goals as goal

pub returns-in-Ok : goal.returns-in-Ok
returns-in-Ok g c = put_gathered g.W.Write.contents c.args.w.now c.gather_output.new.w c.put.new.w
    (output_text c.args.output.now) c.gather_output.new.buffer.items c.args.count c.in-Ok.count c.put.result (rw c.new-buffer.ensures at c.in-Ok.ensures)
    (rw c.deref.ensures.0 at c.put.ensures)
