use Rattle.pf_canon.proofs.ByteTransducerSteps.{answers_byte}
use Rattle.pf_canon.proofs.canonical_bytes.ByteTransducer.next.Goals as goal

pub returns-clause-steps : goal.returns-clause-steps
returns-clause-steps g c = answers_byte g.B.ByteSource.left g.B.ByteSource.kept g.B.ByteSource.failed c.args.self.now c.fill.new.self c.args.bytes.now
    c.fill.new.bytes c.in_default.field-0 c.pop.new.self c.in_ok-byte.byte (rw c.in_default.is at c.fill.ensures) c.in_ok-byte.ensures
