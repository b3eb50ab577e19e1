use Rattle.std.proofs.Common.{arith, refl}
use Rattle.pf_canon.proofs.OutputLemmas.{four_silents, one_silent}
use Rattle.pf_canon.proofs.SinkLemmas.{repeated_all, repeated_more, repeated_none, silents_alone}
use Rattle.pf_canon.proofs.sink.put_silents.Goals as goal

pub loop-left-init : goal.loop-left-init
loop-left-init g c = record { within = omega arith; put = repeated_none g.met.S.Sink.laws silents_alone c.args.sink.now c.args.times c.args.times refl }

pub loop-left-preserved : goal.loop-left-preserved
loop-left-preserved g c =
    let inv = c.loop-left.invariant in
    record {
      within = omega (arith, inv.within);
      put = repeated_more g.met.S.Sink.laws silents_alone c.args.sink.now c.loop-left.sink c.put.new.self c.args.times c.loop-left.left 4 inv.within
          (omega (arith, c.loop-left-test.true)) inv.put (rw four_silents c.put.ensures);
    }

pub loop-left-2-preserved : goal.loop-left-2-preserved
loop-left-2-preserved g c =
    let inv = c.loop-left-2.invariant in
    record {
      within = omega (arith, inv.within);
      put = repeated_more g.met.S.Sink.laws silents_alone c.args.sink.now c.loop-left-2.sink c.put-in-loop-left-2.new.self c.args.times c.loop-left-2.left 1
          inv.within (omega (arith, c.loop-left-2-test.true)) inv.put (rw one_silent c.put-in-loop-left-2.ensures);
    }

pub returns : goal.returns
returns g c = repeated_all g.met.S.Sink.laws silents_alone c.args.sink.now c.loop-left-2.sink c.args.times c.loop-left-2.left c.loop-left-2-test.false
    c.loop-left-2.invariant.put
