use Rattle.std.proofs.Common.{◌≡◌, arith, drop, subst, take}
use Rattle.pf_canon.proofs.ComparisonLemmas.{common_more}
use Rattle.pf_canon.proofs.common_prefix.common_prefix_len.Goals as goal

pub returns-then-run-lt-LANES-clause-common : goal.returns-then-run-lt-LANES-clause-common
returns-then-run-lt-LANES-clause-common c =
    let i = c.loop-at.invariant in
    let run = c.equal_at-run.ensures in
    let most = c.min-most.ensures in
    let room = c.loop-at-test.true in
    common_more c.args.x.now c.args.y.now c.loop-at.at c.equal_at-run.result i.common (omega (arith, most, room, run.few, i.within))
    (omega (arith, most, room, run.few, i.within)) run.same

pub loop-at-preserved : goal.loop-at-preserved
loop-at-preserved c =
    let x = c.args.x.now in
    let y = c.args.y.now in
    let at = c.loop-at.at in
    let i = c.loop-at.invariant in
    let run = c.equal_at-run.ensures in
    let most = c.min-most.ensures in
    let room = c.loop-at-test.true in
    let whole : c.equal_at-run.result ≡ 16 = omega (arith, run.few, c.if-run-lt-LANES.false) in
    let same = subst (λ n. take n (drop at x) ≡ take n (drop at y)) whole run.same in
    record {
      common = common_more x y at 16 i.common (omega (arith, most, room, i.within)) (omega (arith, most, room, i.within)) same;
      within = omega (arith, room, i.within);
    }
