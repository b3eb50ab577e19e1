use Rattle.std.proofs.Common.{arith}
use Rattle.pf_canon.specs.Making.{IsWritten}
use Rattle.pf_canon.specs.Output.{output_text}
use Rattle.pf_canon.proofs.ItemLemmas.{both_put, directive_put, no_item, none_put, percents_put}
use Rattle.pf_canon.proofs.items.put_reduced.Goals as goal

pub loop-found-init : goal.loop-found-init
loop-found-init g c = record {
  low = omega arith;
  within = c.requires.within;
  few = omega arith;
  some = λ some. absurd (omega (arith, some));
  next = c.requires.next;
  put = none_put g.met.S.Sink.laws (IsWritten c.args.model) c.args.walk.text.now c.args.sink.now c.args.from;
}

pub returns-then-held-eq0-clause-put : goal.returns-then-held-eq0-clause-put
returns-then-held-eq0-clause-put g c =
    let text = c.args.walk.text.now in
    let at = c.loop-found.at in
    let i = c.loop-found.invariant in
    let found = c.in-Some.found in
    let front = rw c.text-text.ensures at c.in-Some.ensures in
    let settled = c.settle.ensures in
    both_put g.met.S.Sink.laws (IsWritten c.args.model) text c.args.sink.now c.loop-found.sink c.put.new.sink c.args.from at found.stop 0
    c.loop-found.held 0 i.low (omega (arith, front.some)) i.put
    (directive_put g.S.Sink.given c.args.model text c.loop-found.sink c.put.new.sink at found c.loop-found.held 0
    (output_text c.settle.result) c.put.ensures front (omega arith) (omega (arith, settled.few))
    (λ out items rest h. rw c.if-held-eq0.true at (settled.settles out items rest (omega (arith, i.few, i.within, c.requires.walk.few)) h)))

pub loop-found-preserved : goal.loop-found-preserved
loop-found-preserved g c =
    let text = c.args.walk.text.now in
    let at = c.loop-found.at in
    let found = c.in-Some.found in
    let i = c.loop-found.invariant in
    let front = rw c.text-text.ensures at c.in-Some.ensures in
    let settled = c.settle.ensures in
    let still = c.settle.new.held in
    let end = c.run_end-at in
    let laws = g.met.S.Sink.laws in
    record {
      low = omega (arith, i.low, front.some, end.ensures.within);
      within = end.ensures.within.1;
      few = omega (arith, i.few, settled.one, front.some, end.ensures.within);
      some = λ some. omega (arith, i.low, front.some, end.ensures.within);
      next = end.ensures.next;
      put = both_put laws (IsWritten c.args.model) text c.args.sink.now c.put.new.sink c.put-in-Some.new.self c.args.from found.stop end.result 0 still still
          (omega (arith, i.low, front.some)) end.ensures.within.0
          (both_put laws (IsWritten c.args.model) text c.args.sink.now c.loop-found.sink c.put.new.sink c.args.from at found.stop 0 c.loop-found.held still i.low
          (omega (arith, front.some)) i.put
          (directive_put g.S.Sink.given c.args.model text c.loop-found.sink c.put.new.sink at found c.loop-found.held still
          (output_text c.settle.result) c.put.ensures front settled.one settled.few
          (λ out items rest h. settled.settles out items rest (omega (arith, i.few, i.within, c.requires.walk.few)) h)))
          (percents_put g.S.Sink.given c.args.model text c.put.new.sink c.put-in-Some.new.self found.stop end.result still
          (rw c.text-text.ensures at c.put-in-Some.ensures) end.ensures.passed);
    }

pub returns-clause-none : goal.returns-clause-none
returns-clause-none g c = λ same. no_item c.args.walk.text.now c.loop-found.at c.loop-found.invariant.next (rw c.text-text.ensures at c.in_default.ensures)

pub returns-clause-held : goal.returns-clause-held
returns-clause-held g c = λ some. no_item c.args.walk.text.now c.loop-found.at c.loop-found.invariant.next (rw c.text-text.ensures at c.in_default.ensures)
