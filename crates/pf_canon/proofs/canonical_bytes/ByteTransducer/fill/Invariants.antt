use Rattle.pf_canon.specs.CanonicalBytes.{units}
use Rattle.pf_canon.proofs.ByteTransducerSteps.{Runs}
use Rattle.pf_canon.proofs.canonical_bytes.ByteTransducer.fill.Given as goal

abbrev pub invariant-loop-self : goal.invariant-loop-self
invariant-loop-self g l = Runs g.B.ByteSource.left g.B.ByteSource.kept g.B.ByteSource.failed l.fn.self l.fn.bytes l.self l.bytes

abbrev pub decreases-loop-self : goal.decreases-loop-self
decreases-loop-self g l = units l.self
