use Rattle.std.proofs.Common.{refl, sym}
use Rattle.pf_canon.proofs.ByteTransducerLemmas.{refuses_end, waits_last}
use Rattle.pf_canon.proofs.canonical_bytes.ByteTransducer.end.Goals as goal

pub returns-in-Ok-clause-next : goal.returns-in-Ok-clause-next
returns-in-Ok-clause-next c model start left taken given items reader end read h =
    waits_last model c.args.self.now.transducer start left taken given items h read reader end c.in-Ok.output _ (sym c.of-self.ensures)
    (c.in-Ok.ensures.ended model taken given items h)

pub returns-in-Err-clause-next : goal.returns-in-Err-clause-next
returns-in-Err-clause-next c model start left taken given items reader end read h =
    refuses_end model c.args.self.now.transducer start left taken given items h read reader end c.in-Err.refusal _ (refl, c.requires.1)
    (c.in-Err.ensures.ended model taken given items h)
