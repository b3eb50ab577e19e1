use Rattle.pf_canon.proofs.CopyLemmas.{both_put}
use Rattle.pf_canon.specs.SinkLaws.{first_alone}
use Rattle.pf_canon.proofs.copy.put_both.Goals as goal

pub returns-in-Err : goal.returns-in-Err
returns-in-Err g c = first_alone g.W.Write.contents c.args.w.now c.put.new.w c.args.buffer.now.items c.args.bytes.now c.args.count c.in-Err.count
    (rw c.deref.ensures.0 at c.in-Err.ensures)

pub returns : goal.returns
returns g c = both_put g.W.Write.contents c.args.w.now c.put.new.w c.put-2.new.w c.args.buffer.now.items c.args.bytes.now c.clear.new.self.items c.args.count
    c.in-Ok.count c.put-2.result c.clear.ensures (rw c.deref.ensures.0 at c.in-Ok.ensures) c.put-2.ensures
