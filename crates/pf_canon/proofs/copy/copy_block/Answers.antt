use Rattle.pf_canon.proofs.CopyLemmas.{block_first, block_refused, block_written}
use Rattle.pf_canon.proofs.copy.copy_block.Goals as goal

pub returns-in-Err-clause-copied : goal.returns-in-Err-clause-copied
returns-in-Err-clause-copied g c model front start h =
    let call = c.write_block-taken in
    let (more, puts, taken) = call.ensures in
    block_first model g.W.Write.contents c.args.w.now call.new.w c.args.transducer.now call.new.transducer front c.args.text.now more start c.args.written h
    call.result.0 (taken model front h.out h.items h.through) c.in-Err.written (rw c.in-Err.is at puts)

pub returns-in-Ok-taken-clause-copied : goal.returns-in-Ok-taken-clause-copied
returns-in-Ok-taken-clause-copied g c model front start h =
    let call = c.write_block-taken in
    let (more, puts, taken) = call.ensures in
    block_written model g.W.Write.contents c.args.w.now call.new.w c.args.transducer.now call.new.transducer front c.args.text.now more start c.args.written h
    c.in-Ok-taken.field-0 (rw c.in-Ok-taken.is at taken model front h.out h.items h.through) c.in-Ok.written (rw c.in-Ok.is at puts)

pub returns-in-Err-taken-clause-copied : goal.returns-in-Err-taken-clause-copied
returns-in-Err-taken-clause-copied g c model front start h =
    let call = c.write_block-taken in
    let (more, puts, taken) = call.ensures in
    block_refused model g.W.Write.contents c.args.w.now call.new.w c.args.transducer.now call.new.transducer front c.args.text.now more start c.args.written h
    c.in-Err-taken.refusal (rw c.in-Err-taken.is at taken model front h.out h.items h.through) c.in-Ok.written (rw c.in-Ok.is at puts)
