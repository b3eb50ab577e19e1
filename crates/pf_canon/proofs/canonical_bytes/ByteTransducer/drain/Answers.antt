use Rattle.std.proofs.Common.{◌≡◌, ◌∙◌, true, false, refl, sym}
use Rattle.pf_canon.specs.declared.output.PendingOutput.TheVariants as pending
use Rattle.std.proofs.lemmas.Result.{err_from_is_err_and}
use Rattle.pf_canon.proofs.ByteTransducerSteps.{drain_stops, drains_on}
use Rattle.pf_canon.proofs.canonical_bytes.ByteTransducer.drain.Goals as goal

pub loop-self-preserved : goal.loop-self-preserved
loop-self-preserved g c =
    let i = c.loop-self.invariant in
    let k = c.in_ok-ask.ensures in
    record {
      drains = λ model start taken given h. drains_on model c.args.self.now c.loop-self.self c.ask.new.self start _ _ given pending.Nothing refl
          (i.drains model start taken given h) i.closed c.loop-self-test.true c.in_ok-ask.field-0 (k.next model start);
      closed = λ before. absurd (let both : true ≡ false = sym c.loop-self-test.true ∙ i.closed before in cc);
      kept = g.met.B.ByteSource.kept_later _ _ _ i.kept k.counts;
    }

pub returns-in_err-ask-clause-drained : goal.returns-in_err-ask-clause-drained
returns-in_err-ask-clause-drained g c model start taken given h filled =
    let p = err_from_is_err_and c.from_residual.result c.from_residual.ensures.1 in
    let i = c.loop-self.invariant in
    rw (p.1, p.2)
    (drain_stops model c.args.self.now c.loop-self.self c.ask.new.self start _ _ given pending.Nothing refl
    (i.drains model start taken given h) i.closed c.loop-self-test.true filled c.in_err-ask.field-0.0 (c.in_err-ask.ensures.next model start))
