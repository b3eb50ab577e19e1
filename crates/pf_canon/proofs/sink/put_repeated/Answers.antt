use Rattle.std.proofs.Common.{◌<◌, ◌≤◌, ◌*◌, ◌/◌, ◌%◌, ap, ◌∙◌, subst, arith, refl, replicate}
use Rattle.std.proofs.lemmas.List.{replicate-append-replicate}
use Rattle.std.proofs.lemmas.Nat.{div-add-mod'}
use Rattle.std.proofs.Math.Nat.{mod-lt}
use Rattle.pf_canon.specs.declared.limits.TheConstants.{BLOCK}
use Rattle.pf_values.specs.declared.padding.TheConstants.{MAX_RUN}
use Rattle.pf_canon.proofs.OffsetLemmas.{take_block}
use Rattle.pf_canon.proofs.SinkLemmas.{blocks, repeated_all, repeated_more, repeated_none}
use Rattle.pf_canon.proofs.sink.put_repeated.Goals as goal

pub returns-then-times-eq0 : goal.returns-then-times-eq0
returns-then-times-eq0 g c byte e = rw c.if-times-eq0.true (g.met.S.Sink.laws.none c.args.sink.now)

pub loop-left-init : goal.loop-left-init
loop-left-init g c = record {
  within = omega arith;
  put = λ byte e. repeated_none g.met.S.Sink.laws (blocks byte) c.args.sink.now (c.args.times / BLOCK) (c.args.times / BLOCK) refl;
}

pub loop-left-preserved : goal.loop-left-preserved
loop-left-preserved g c =
    let inv = c.loop-left.invariant in
    record {
      within = omega (arith, inv.within);
      put = λ byte e.
          repeated_more g.met.S.Sink.laws (blocks byte) c.args.sink.now c.loop-left.sink c.put.new.self (c.args.times / BLOCK) c.loop-left.left 1 inv.within
          (omega (arith, c.loop-left-test.true)) (inv.put byte e)
          (rw (c.from.ensures, take_block c.args.block.now MAX_RUN BLOCK byte e (omega arith)) at c.put.ensures);
    }

pub returns : goal.returns
returns g c byte e =
    let q = c.args.times / BLOCK in
    let rest = c.args.times % BLOCK in
    let few : rest ≤ MAX_RUN = let small : rest < BLOCK = mod-lt c.args.times (omega arith) in omega (arith, small) in
    let whole = repeated_all g.met.S.Sink.laws (blocks byte) c.args.sink.now c.loop-left.sink q c.loop-left.left c.loop-left-test.false
    (c.loop-left.invariant.put byte e) in
    subst (g.S.Sink.given c.args.sink.now c.put-2.new.self) (replicate-append-replicate (q * BLOCK) rest byte
    ∙ ap (λ n. replicate n byte) (div-add-mod' c.args.times BLOCK))
    (g.met.S.Sink.laws.both c.args.sink.now c.loop-left.sink c.put-2.new.self (replicate (q * BLOCK) byte) (replicate rest byte) whole
    (rw (c.from-2.ensures, take_block c.args.block.now MAX_RUN rest byte e few) at c.put-2.ensures))
