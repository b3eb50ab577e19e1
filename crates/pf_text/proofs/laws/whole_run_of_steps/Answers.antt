use Rattle.pf_text.proofs.WholeRunLemmas.{fed_one, fed_refused, run_finished}
use Rattle.pf_text.proofs.laws.whole_run_of_steps.Goals as goal

pub loop-byte-init : goal.loop-byte-init
loop-byte-init c = record { taken = rw c.new-made.ensures.items c.new-scanner.ensures }

pub returns-in-Err : goal.returns-in-Err
returns-in-Err c =
    let taken = c.loop-byte.invariant.taken in
    fed_refused c.args.text.now c.loop-byte.byte-index c.loop-byte.scanner c.loop-byte.made.items taken c.loop-byte-test.true _ c.feed.new.self
    c.in-Err.refusal (c.in-Err.ensures.fed _ _ taken)

pub loop-byte-preserved : goal.loop-byte-preserved
loop-byte-preserved c =
    let taken = c.loop-byte.invariant.taken in
    record {
      taken = rw c.in_ok-push-in-Ok.ensures.items (fed_one c.args.text.now c.loop-byte.byte-index c.loop-byte.scanner c.loop-byte.made.items taken
          c.loop-byte-test.true _ c.feed.new.self c.in-Ok.step (c.in-Ok.ensures.fed _ _ taken));
    }

pub returns : goal.returns
returns c =
    let taken = c.loop-byte.invariant.taken in
    run_finished c.args.text.now c.loop-byte.byte-index c.loop-byte.scanner c.loop-byte.made.items taken c.loop-byte-test.false c.finish.result
    (c.finish.ensures.finished _ _ taken)
