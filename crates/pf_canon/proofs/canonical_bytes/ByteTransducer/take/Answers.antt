use Rattle.std.proofs.Common.{refl, sym}
use Rattle.pf_canon.proofs.ByteTransducerLemmas.{refuses, waits}
use Rattle.pf_canon.proofs.canonical_bytes.ByteTransducer.take.Goals as goal

pub returns-in-Ok-clause-next : goal.returns-in-Ok-clause-next
returns-in-Ok-clause-next c model start left taken given items reader read h =
    waits model c.args.self.now.transducer _ start left taken given items c.args.byte h read reader c.args.self.now.is_open _ c.in-Ok.output c.requires.0
    (sym c.of_byte-self.ensures) (c.in-Ok.ensures.fed model taken given items h)

pub returns-in-Err-clause-next : goal.returns-in-Err-clause-next
returns-in-Err-clause-next c model start left taken given items reader read h =
    refuses model c.args.self.now.transducer c.feed.new.self start left taken given items c.args.byte h read reader c.in-Err.refusal _ (refl, c.requires.1)
    (c.in-Err.ensures.fed model taken given items h)
