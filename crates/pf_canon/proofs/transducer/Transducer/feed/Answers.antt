use Rattle.pf_canon.proofs.TransducerLemmas.{grown}
use Rattle.pf_canon.proofs.transducer.Transducer.feed.Goals as goal

pub returns-in-Ok-clause-fed : goal.returns-in-Ok-clause-fed
returns-in-Ok-clause-fed c model t out items h =
    let s = c.settle.ensures in
    grown model c.args.self.now c.settle.new.self t out items c.args.byte c.in-Ok.step c.settle.result h s.model
    (rw s.scanner (c.in-Ok.ensures.fed t items h.after)) (s.settles c.args.byte out items) s.one (s.short c.args.byte)

pub returns-in-Err-clause-fed : goal.returns-in-Err-clause-fed
returns-in-Err-clause-fed c model t out items h = c.in-Err.ensures.fed t items h.after
