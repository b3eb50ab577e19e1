use Rattle.std.proofs.Common.{◌≤◌, ◌∙◌, arith, inl, inr, length, sym}
use Rattle.std.specs.Prelude.{◌⊎◌}
use Rattle.pf_posix.proofs.DifferenceLemmas.{both_end, full, one_longer, over_lists, places_differ, places_same, same_lists, same_more}
use Rattle.pf_posix.proofs.comparison.difference.Goals as goal
use Rattle.pf_posix.proofs.comparison.difference.Goals.{then-loop-index-test+then-index-count+else-index-second_count, then-loop-index-test+else-index-count}
use Rattle.pf_posix.proofs.comparison.difference.Goals.{else-loop-index-test}

pub returns-then-number : goal.returns-then-number
returns-then-number c a b start from e f x y few =
    let k = c.loop-index.index in (
      places_differ c.args.types.now c.args.others.now start from a b k _ _ c.number.result c.number-in-loop-index.result e f
          (omega (arith, c.loop-index-test.true)) (omega (arith, c.loop-index-test.true, c.requires))
          (omega (arith, x, c.if-index-count.true)) (omega (arith, y, c.if-index-second_count.true))
          c.number.ensures c.number-in-loop-index.ensures c.if-number.true,
      c.loop-index.invariant.same a b start from e f x y,
    )

pub loop-index-preserved : goal.loop-index-preserved
loop-index-preserved c =
    let k = c.loop-index.index in
    let i = c.loop-index.invariant in
    record {
      few = omega (arith, c.loop-index-test.true);
      first = omega (arith, c.if-index-count.true);
      second = omega (arith, c.if-index-second_count.true);
      same = λ a b start from e f x y. same_more a b k (i.same a b start from e f x y)
          (places_same c.args.types.now c.args.others.now start from a b k _ _ c.number.result c.number-in-loop-index.result e f
          (omega (arith, c.loop-index-test.true)) (omega (arith, c.loop-index-test.true, c.requires))
          (omega (arith, x, c.if-index-count.true)) (omega (arith, y, c.if-index-second_count.true))
          c.number.ensures c.number-in-loop-index.ensures c.if-number.false);
    }

pub returns-then-count-second_count : goal.returns-then-count-second_count
returns-then-count-second_count c a b start from e f x y few =
    let k = c.loop-index.index in
    let i = c.loop-index.invariant in
    let over : (c.args.count ≤ k) ⊎ (c.args.second_count ≤ k) = elim c.loop-index-test.branch [
      | then-loop-index-test+then-index-count+else-index-second_count w ↦ inr (omega (arith, w.if-index-second_count.false))
      | then-loop-index-test+else-index-count w ↦ inl (omega (arith, w.if-index-count.false))
      | else-loop-index-test w ↦ full (length c.args.types.now) c.args.count c.args.second_count k (length a) (length b) x y
          (omega (arith, w.loop-index-test.false)) few
    ] in
    let ends = both_end c.args.count c.args.second_count k c.if-count-second_count.true i.first i.second over in
    same_lists a b k (i.same a b start from e f x y) (sym x ∙ ends.0) (sym y ∙ ends.1)

pub returns : goal.returns
returns c a b start from e f x y few =
    let k = c.loop-index.index in
    let i = c.loop-index.invariant in
    let over : (c.args.count ≤ k) ⊎ (c.args.second_count ≤ k) = elim c.loop-index-test.branch [
      | then-loop-index-test+then-index-count+else-index-second_count w ↦ inr (omega (arith, w.if-index-second_count.false))
      | then-loop-index-test+else-index-count w ↦ inl (omega (arith, w.if-index-count.false))
      | else-loop-index-test w ↦ full (length c.args.types.now) c.args.count c.args.second_count k (length a) (length b) x y
          (omega (arith, w.loop-index-test.false)) few
    ] in
    one_longer a b k (i.same a b start from e f x y) (λ same. c.if-count-second_count.false (x ∙ same ∙ sym y))
    (omega (arith, i.first, x)) (omega (arith, i.second, y)) (over_lists c.args.count c.args.second_count k (length a) (length b) x y over)
