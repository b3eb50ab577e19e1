use Rattle.std.proofs.Common.{◌++◌, subst, take}
use Rattle.pf_canon.specs.CanonicalSlices.{SlicesHaveGiven, pending_of}
use Rattle.pf_canon.proofs.ComparisonLemmas.{common_taken}
use Rattle.pf_canon.proofs.SliceLemmas.{are_slices}
use Rattle.pf_canon.proofs.comparison.go_in_step.Goals as goal

pub fill-requires : goal.fill-requires
fill-requires g c =
    let (model, t, u, given, h, k) = c.requires in
    let before = c.loop-count.invariant.given model t u given h k in
    are_slices g.L.Language.has_front g.L.Language.refuses model c.loop-count.first t before.0 before.1

pub fill-requires-in-loop-count : goal.fill-requires-in-loop-count
fill-requires-in-loop-count g c =
    let (model, t, u, given, h, k) = c.requires in
    let before = c.loop-count.invariant.given model t u given h k in
    are_slices g.L.Language.has_front g.L.Language.refuses model c.loop-count.second u before.0 before.2

pub loop-count-preserved : goal.loop-count-preserved
loop-count-preserved g c = record {
  given = λ model t u given h k.
      let before = c.loop-count.invariant.given model t u given h k in
      let first = c.fill.new.self in
      let second = c.fill-in-loop-count.new.self in
      let n = c.in-Some.count in (
        before.0 ++ take n (pending_of first),
        c.skip.ensures.given model t before.0 (c.fill.ensures.given model t before.0 before.1),
        subst (λ v. SlicesHaveGiven g.L.Language.has_front g.L.Language.refuses model c.skip-in-Some.new.self u (before.0 ++ v))
            (common_taken (pending_of first) (pending_of second) _ _ n c.front.ensures c.front-in-loop-count.ensures c.in-Some.ensures)
            (c.skip-in-Some.ensures.given model u before.0 (c.fill-in-loop-count.ensures.given model u before.0 before.2)),
      );
}
