use Rattle.std.proofs.Common.{◌∙◌, arith, refl}
use Rattle.pf_posix.proofs.DirectiveLemmas.{listing_ends, listing_found, listing_passed, listing_starts}
use Rattle.pf_text.proofs.WalkLemmas.{items_walked}
use Rattle.pf_posix.proofs.directive_spans.put_directives.Goals as goal

pub loop-walk-init : goal.loop-walk-init
loop-walk-init c =
    let start = c.new-walk.ensures in
    (listing_starts c.args.model c.args.text.now c.requires.0 c.requires.1 c.new-walk.result start.over start.at c.args.out.now, refl)

pub loop-walk-preserved-in-None-default : goal.loop-walk-preserved-in-None-default
loop-walk-preserved-in-None-default c =
    let i = c.loop-walk.invariant.0 in
    let item = c.item_at in
    let there = item.ensures.listed c.args.model _ i.done c.loop-walk.fetched i.listed in (
      listing_passed c.args.model c.args.text.now c.loop-walk.walk _ _ _ _ i item.result.1 item.ensures.further c.find.new.self
          (items_walked _ _ _ c.find.ensures.passed)
          (rw c.in-None-default.is-0 at there),
      c.loop-walk.invariant.1,
    )

pub loop-walk-preserved : goal.loop-walk-preserved
loop-walk-preserved c =
    let i = c.loop-walk.invariant.0 in
    let item = c.item_at in
    let there = item.ensures.listed c.args.model _ i.done c.loop-walk.fetched i.listed in
    let count = c.fetch_count-fetched.ensures in (
      listing_found c.args.model c.args.text.now c.loop-walk.walk _ _ _ _ i item.result.1 item.ensures.further c.in-Some-default.read
          (rw c.in-Some-default.is-0 at there) c.span_between.result c.span_between.ensures c.fetch_count-fetched.result (count.count c.args.model) count.few
          c.put.new.out c.put.ensures.filled,
      c.put.ensures.length ∙ c.loop-walk.invariant.1,
    )

pub returns-clause-directives : goal.returns-clause-directives
returns-clause-directives c =
    listing_ends c.args.model c.args.text.now _ _ _ _ _ c.loop-walk.invariant.0 (omega (arith, c.loop-walk-test.false))
