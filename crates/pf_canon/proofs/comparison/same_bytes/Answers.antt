use Rattle.std.proofs.Common.{[], Bool, Err, refl, inl}
use Rattle.std.proofs.lemmas.Result.{err_from_is_err_and}
use Rattle.pf_canon.specs.CanonicalBytes.{pending_in}
use Rattle.pf_canon.proofs.ComparisonLemmas.{fronts_apart, in_step_on, same_ends, sides_later}
use Rattle.pf_canon.proofs.comparison.same_bytes.Goals as goal

pub loop-first-init : goal.loop-first-init
loop-first-init g c = record {
  in_step = record { t = []; u = []; given = []; one = c.new-first.ensures _; two = c.new-second.ensures _; in_step = inl refl };
  kept_a = g.met.A.ByteSource.kept_itself c.args.a.now;
  kept_b = g.met.B.ByteSource.kept_itself c.args.b.now;
}

pub loop-first-preserved : goal.loop-first-preserved
loop-first-preserved g c =
    let i = c.loop-first.invariant in
    let f = c.in_ok-fill_both.ensures in
    let k = f.in_step c.args.model _ _ i.in_step in
    record {
      in_step = in_step_on c.args.model c.fill_both.new.first c.skip.new.self c.fill_both.new.second c.skip-in-Some.new.self _ _ _ _ _ _ c.in-Some.count
          c.front.ensures c.front-in-loop-first.ensures c.in-Some.ensures c.in-Some.count-test.1 k
          (c.skip.ensures.given c.args.model _ _ k.t k.given k.one) (c.skip-in-Some.ensures.given c.args.model _ _ k.u k.given k.two);
      kept_a = g.met.A.ByteSource.kept_later _ _ _ i.kept_a f.counts.0;
      kept_b = g.met.B.ByteSource.kept_later _ _ _ i.kept_b f.counts.1;
    }

pub returns-in_err-fill_both-clause-counts : goal.returns-in_err-fill_both-clause-counts
returns-in_err-fill_both-clause-counts g c =
    let i = c.loop-first.invariant in
    let p = err_from_is_err_and c.from_residual.result c.from_residual.ensures.1 in
    rw (p.1, p.2)
    (sides_later g.A.ByteSource.kept g.A.ByteSource.failed g.B.ByteSource.kept g.B.ByteSource.failed g.met.A.ByteSource.kept_later
    g.met.A.ByteSource.failed_later g.met.B.ByteSource.kept_later g.met.B.ByteSource.failed_later (Unit {0}) (Err c.in_err-fill_both.field-0.0)
    c.args.a.now c.loop-first.a c.fill_both.new.a c.args.b.now c.loop-first.b c.fill_both.new.b i.kept_a i.kept_b c.in_err-fill_both.ensures.counts)

pub returns-in-Some-eq0-clause-compared : goal.returns-in-Some-eq0-clause-compared
returns-in-Some-eq0-clause-compared g c =
    let k = c.in_ok-fill_both.ensures.in_step c.args.model _ _ c.loop-first.invariant.in_step in
    let none = c.in-Some-eq0.ensures.3 c.in-Some-eq0.field-0-test in
    same_ends c.args.model _ _ _ _ c.fill_both.new.first c.fill_both.new.second k.t k.u k.given k.one_filled k.two_filled (c.front.ensures.some none.0)
    (c.front-in-loop-first.ensures.some none.1) k.one k.two

pub returns-in-Some-eq0-clause-counts : goal.returns-in-Some-eq0-clause-counts
returns-in-Some-eq0-clause-counts g c =
    let i = c.loop-first.invariant in
    let counts = c.in_ok-fill_both.ensures.counts in
    (g.met.A.ByteSource.kept_later _ _ _ i.kept_a counts.0, g.met.B.ByteSource.kept_later _ _ _ i.kept_b counts.1)

pub returns-in-None-clause-compared : goal.returns-in-None-clause-compared
returns-in-None-clause-compared g c =
    let k = c.in_ok-fill_both.ensures.in_step c.args.model _ _ c.loop-first.invariant.in_step in
    c.drain_both.ensures.compared c.args.model _ _ k (fronts_apart (pending_in c.fill_both.new.first)
    (pending_in c.fill_both.new.second) _ _ c.front.ensures c.front-in-loop-first.ensures c.in-None.ensures)

pub returns-in-None-clause-counts : goal.returns-in-None-clause-counts
returns-in-None-clause-counts g c =
    let i = c.loop-first.invariant in
    let counts = c.in_ok-fill_both.ensures.counts in
    sides_later g.A.ByteSource.kept g.A.ByteSource.failed g.B.ByteSource.kept g.B.ByteSource.failed g.met.A.ByteSource.kept_later
    g.met.A.ByteSource.failed_later g.met.B.ByteSource.kept_later g.met.B.ByteSource.failed_later Bool c.drain_both.result
    c.args.a.now c.fill_both.new.a c.drain_both.new.a c.args.b.now c.fill_both.new.b c.drain_both.new.b (g.met.A.ByteSource.kept_later _ _ _ i.kept_a counts.0)
    (g.met.B.ByteSource.kept_later _ _ _ i.kept_b counts.1) c.drain_both.ensures.counts
