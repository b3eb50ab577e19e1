use Rattle.std.proofs.Common.{◌≡◌, ℕ, arith, rules, ◌<◌, ◌++◌, ◌∙◌, take, length}
use Rattle.std.proofs.KnownBytes.{Consumes-kept, Consumes-trans}
use Rattle.std.proofs.lemmas.List.{length-take-le}
use Rattle.pf_values.specs.Counting.{device_of}
use Rattle.pf_canon.specs.declared.limits.TheConstants.{COPY_BLOCK}
use Rattle.pf_canon.proofs.CopyLemmas.{longer, read_end, reads_kept, settled_out, stops_all, stops_reads}
use Rattle.pf_canon.proofs.copy.copy_canonical.Goals as goal

pub returns-in-Ok-eq0-clause-copied : goal.returns-in-Ok-eq0-clause-copied
returns-in-Ok-eq0-clause-copied g c =
    let inv = c.loop-transducer.invariant.copied in
    let some : 0 < length c.read.new.buf = search rules in
    let end = read_end _ _ _ inv.0 c.read.new.buf c.in-Ok-eq0.field-0 (search rules) some inv.1 c.in-Ok-eq0.ensures.bytes in
    c.copy_end.ensures.copied c.args.model inv.0 _ _ _ end.0 end.1 inv.2

pub returns-in-Ok-eq0-clause-reads : goal.returns-in-Ok-eq0-clause-reads
returns-in-Ok-eq0-clause-reads g c = reads_kept ℕ c.args.r.now c.read.new.self
    (c.in-Ok-eq0.ensures.failures ∙ c.loop-transducer.invariant.reads) c.copy_end.result c.copy_end.ensures.reads

pub loop-transducer-smaller : goal.loop-transducer-smaller
loop-transducer-smaller g c =
    let inv = c.loop-transducer.invariant.copied in
    longer c.args.model c.loop-transducer.transducer c.copy_block.new.transducer inv.0 c.read.new.buf c.in-Ok.len _ _ _ _ _
    (search rules) c.in-Ok.ensures.bound.0 inv.2 (c.in-Ok-copy_block.ensures.copied c.args.model inv.0 _ inv.2)

pub loop-transducer-preserved : goal.loop-transducer-preserved
loop-transducer-preserved g c =
    let inv = c.loop-transducer.invariant in
    record {
      reads = c.in-Ok.ensures.failures ∙ inv.reads;
      writes = c.in-Ok-copy_block.ensures.counts ∙ inv.writes;
      copied = (
        inv.copied.0 ++ take c.in-Ok.len c.read.new.buf,
        Consumes-trans _ _ _ inv.copied.0 (take c.in-Ok.len c.read.new.buf) inv.copied.1 c.in-Ok.ensures.bytes.0,
        c.in-Ok-copy_block.ensures.copied c.args.model inv.copied.0 _ inv.copied.2,
      );
    }

pub returns-in-Err-copy_block-clause-copied : goal.returns-in-Err-copy_block-clause-copied
returns-in-Err-copy_block-clause-copied g c =
    let inv = c.loop-transducer.invariant.copied in
    let few = c.in-Ok.ensures.bound.0 in
    let block : length c.read.new.buf ≡ COPY_BLOCK = search rules in
    stops_all c.args.model _ _ _ _ inv.0 (take c.in-Ok.len c.read.new.buf) c.in-Err-copy_block.fault
    (omega (arith, few, block, length-take-le c.in-Ok.len c.read.new.buf few))
    (Consumes-trans _ _ _ inv.0 (take c.in-Ok.len c.read.new.buf) inv.1 c.in-Ok.ensures.bytes.0)
    (c.in-Err-copy_block.ensures.copied c.args.model inv.0 _ inv.2)

pub returns-in-Err-copy_block-clause-reads : goal.returns-in-Err-copy_block-clause-reads
returns-in-Err-copy_block-clause-reads g c =
    let inv = c.loop-transducer.invariant.copied in
    let k = g.W.Write.contents in
    stops_reads ℕ c.args.r.now c.read.new.self (c.in-Ok.ensures.failures ∙ c.loop-transducer.invariant.reads) c.args.model (k (device_of c.args.w.now))
    (k (device_of c.copy_block.new.w)) inv.0 (take c.in-Ok.len c.read.new.buf) c.in-Err-copy_block.fault
    (c.in-Err-copy_block.ensures.copied c.args.model inv.0 _ inv.2)

pub returns-in-Err-clause-copied : goal.returns-in-Err-clause-copied
returns-in-Err-clause-copied g c =
    let inv = c.loop-transducer.invariant.copied in (
      inv.0,
      Consumes-kept _ _ _ inv.0 inv.1 c.in-Err.ensures.bytes,
      settled_out c.args.model c.loop-transducer.transducer inv.0 _ _ c.loop-transducer.written inv.2,
    )
