use Rattle.std.proofs.lemmas.Result.{err_from_is_err_and}
use Rattle.pf_canon.proofs.ByteTransducerSteps.{continues, stops}
use Rattle.pf_canon.proofs.canonical_bytes.ByteTransducer.fill.Goals as goal

pub loop-self-preserved : goal.loop-self-preserved
loop-self-preserved g c =
    let k = c.in_ok-ask.ensures in
    continues g.B.ByteSource.left g.B.ByteSource.kept g.B.ByteSource.failed g.met.B.ByteSource.kept_later c.args.self.now c.loop-self.self c.ask.new.self
    c.args.bytes.now c.loop-self.bytes c.ask.new.bytes c.loop-self.invariant c.loop-self-test.ensures k.lower c.in_ok-ask.field-0 k.next k.counts

pub returns-in_err-ask : goal.returns-in_err-ask
returns-in_err-ask g c =
    let p = err_from_is_err_and c.from_residual.result c.from_residual.ensures.1 in
    let k = c.in_err-ask.ensures in
    rw (p.1, p.2)
    (stops g.B.ByteSource.left g.B.ByteSource.kept g.B.ByteSource.failed g.met.B.ByteSource.kept_later c.args.self.now c.loop-self.self c.ask.new.self
    c.args.bytes.now c.loop-self.bytes c.ask.new.bytes c.loop-self.invariant c.loop-self-test.ensures k.lower g.met.B.ByteSource.failed_later
    c.in_err-ask.field-0.0 k.next k.counts)
