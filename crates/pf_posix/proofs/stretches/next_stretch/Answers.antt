use Rattle.std.proofs.Common.{arith, subst}
use Rattle.pf_posix.specs.StretchesInText.{EndsBehind, IsFound}
use Rattle.pf_posix.proofs.StretchLemmas.{found_more, head_before, head_last}
use Rattle.pf_posix.proofs.stretches.next_stretch.Goals as goal

pub loop-at-preserved : goal.loop-at-preserved
loop-at-preserved c =
    let t = c.args.text.now in
    let i = c.loop-at.invariant in
    let further = subst (EndsBehind t c.loop-at.at) c.in-Items.is c.in_ok-stop.ensures.further in
    record {
      from = omega (arith, i.from, further.0);
      within = further.1;
      found = λ left h. found_more t c.args.from c.loop-at.at c.in-Items.stop left (i.found left h)
          (λ later g. subst (IsFound t c.loop-at.at later) c.in-Items.is (c.in_ok-stop.ensures.found later g));
    }

pub returns-in-Opaque-clause-head : goal.returns-in-Opaque-clause-head
returns-in-Opaque-clause-head c left h =
    let t = c.args.text.now in
    let i = c.loop-at.invariant in
    let opaque = c.in-Opaque.opaque in
    let further = subst (EndsBehind t c.loop-at.at) c.in-Opaque.is c.in_ok-stop.ensures.further in
    head_before t c.args.from c.loop-at.at c.in-Opaque.stop opaque left i.from (omega (arith, further.0)) further.1 (i.found left h)
    (λ later g. subst (IsFound t c.loop-at.at later) c.in-Opaque.is (c.in_ok-stop.ensures.found later g))

pub returns-clause-head : goal.returns-clause-head
returns-clause-head c left h =
    let i = c.loop-at.invariant in
    head_last c.args.text.now c.args.from c.loop-at.at left i.from i.within c.loop-at-test.false (i.found left h)
