use Rattle.std.proofs.Common.{[], ◌∷◌, refl}
use Rattle.std.proofs.KnownBytes.{Consumes-trans}
use Rattle.pf_canon.proofs.ByteTransducerLemmas.{asking, consumed_none, counts_kept, fails}
use Rattle.pf_canon.proofs.canonical_bytes.ByteTransducer.ask.Goals as goal

pub returns-in-Byte-clause-next : goal.returns-in-Byte-clause-next
returns-in-Byte-clause-next g c model start taken given h =
    let a = asking model c.args.self.now.is_open c.args.self.now.transducer _ start _ taken given c.requires.0 c.requires.1 h in
    c.take-in-Byte.ensures.next model start _ taken given a.items (Consumes-trans start _ _ taken (c.in-Byte.byte ∷ []) a.reader c.in-Byte.ensures.found) a.read
    a.through

pub returns-in-Byte-clause-counts : goal.returns-in-Byte-clause-counts
returns-in-Byte-clause-counts g c = counts_kept g.B.ByteSource.kept g.B.ByteSource.failed c.take-in-Byte.result c.args.bytes.now _
    c.take-in-Byte.ensures.no_fault c.in-Byte.ensures.counted

pub returns-in-End-clause-next : goal.returns-in-End-clause-next
returns-in-End-clause-next g c model start taken given h =
    let a = asking model c.args.self.now.is_open c.args.self.now.transducer _ start _ taken given c.requires.0 c.requires.1 h in
    c.end.ensures.next model start _ taken given a.items (consumed_none start _ _ taken a.reader c.in-End.ensures.found.0) c.in-End.ensures.found.1 a.read
    a.through

pub returns-in-End-clause-counts : goal.returns-in-End-clause-counts
returns-in-End-clause-counts g c = counts_kept g.B.ByteSource.kept g.B.ByteSource.failed c.end.result c.args.bytes.now _ c.end.ensures.no_fault
    c.in-End.ensures.counted

pub returns-in-Failed-clause-next : goal.returns-in-Failed-clause-next
returns-in-Failed-clause-next g c model start taken given h =
    let a = asking model c.args.self.now.is_open c.args.self.now.transducer _ start _ taken given c.requires.0 c.requires.1 h in
    fails model c.args.self.now.transducer start _ taken given a.items a.through a.read (consumed_none start _ _ taken a.reader c.in-Failed.ensures.found) _
    (refl, c.requires.1)
