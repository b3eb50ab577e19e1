use Rattle.std.proofs.Common.{◌≤◌, ◌+◌, ◌++◌, arith, drop, length, subst}
use Rattle.std.proofs.lemmas.List.{length-drop, take_all, take_rest}
use Rattle.pf_canon.specs.Transducer.{PutsBytes}
use Rattle.pf_canon.proofs.BlockLemmas.{item_taken, more_taken, none_taken, refused_behind}
use Rattle.pf_canon.proofs.transducer.Transducer.put.Goals as goal

pub loop-at-init : goal.loop-at-init
loop-at-init g c = record { within = omega arith; put = none_taken g.met.S.Sink.laws c.args.sink.now c.args.self.now }

pub loop-at-preserved : goal.loop-at-preserved
loop-at-preserved g c =
    let block = c.args.block.now in
    let at = c.loop-at.at in
    let laws = g.met.S.Sink.laws in
    let front = c.put_front-at in
    let mid = at + front.result in
    let first : front.result ≤ length (drop at block) = rw take_rest at front.ensures.within in
    let within : mid ≤ length block = omega (arith, first, length-drop at block, c.loop-at-test.true) in
    let few = rw take_rest at c.in-Ok.ensures.within.1 in
    record {
      within = omega (arith, few, length-drop mid block, within);
      put = more_taken laws c.args.sink.now front.new.sink c.put_item.new.sink c.args.self.now front.new.self c.put_item.new.self block mid c.in-Ok.len
          (more_taken laws c.args.sink.now c.loop-at.sink front.new.sink c.args.self.now c.loop-at.self front.new.self block at front.result
          c.loop-at.invariant.put (rw take_rest at front.ensures.put))
          (item_taken g.S.Sink.given front.new.sink c.put_item.new.sink front.new.self c.put_item.new.self (drop mid block) c.in-Ok.len
          (rw take_rest at c.in-Ok.ensures.put));
    }

pub loop-at-smaller : goal.loop-at-smaller
loop-at-smaller g c =
    let block = c.args.block.now in
    let at = c.loop-at.at in
    let front = c.put_front-at in
    let mid = at + front.result in
    let first : front.result ≤ length (drop at block) = rw take_rest at front.ensures.within in
    let some = rw take_rest at c.in-Ok.ensures.within.0 in
    let few = rw take_rest at c.in-Ok.ensures.within.1 in
    omega (arith, first, some, few, length-drop at block, length-drop mid block, c.loop-at-test.true)

pub returns-in-Err : goal.returns-in-Err
returns-in-Err g c =
    let block = c.args.block.now in
    let at = c.loop-at.at in
    let laws = g.met.S.Sink.laws in
    let front = c.put_front-at in
    let mid = at + front.result in
    let before = more_taken laws c.args.sink.now c.loop-at.sink front.new.sink c.args.self.now c.loop-at.self front.new.self block at front.result
    c.loop-at.invariant.put (rw take_rest at front.ensures.put) in
    let (more, given, refused) = rw take_rest at c.in-Err.ensures.put in (
      before.0 ++ more,
      laws.both c.args.sink.now front.new.sink c.put_item.new.sink before.0 more before.1 given,
      λ model t out items h.
          let now = before.2 model t out items h in
          refused_behind laws model t out before.0 more block mid c.in-Err.refusal (refused model _ _ now.0 now.1),
    )

pub returns : goal.returns
returns g c =
    let block = c.args.block.now in
    let end : length block ≤ c.loop-at.at = c.loop-at-test.false in
    subst (PutsBytes g.S.Sink.given c.args.sink.now c.loop-at.sink c.args.self.now c.loop-at.self) (take_all c.loop-at.at block end) c.loop-at.invariant.put
