use Rattle.std.proofs.Common.{arith}
use Rattle.pf_text.proofs.ReadingLemmas.{moved_over}
use Rattle.pf_posix.proofs.SpecificationWalkLemmas.{ahead_ends, own_found, own_passed, own_text}
use Rattle.pf_text.proofs.WalkLemmas.{items_walked}
use Rattle.pf_posix.proofs.specification_walk.SpecificationWalk.next.Goals as goal

pub item_at-requires-clause-reads : goal.item_at-requires-clause-reads
item_at-requires-clause-reads c =
    let h = own_text _ _ _ _ (c.loop-self.invariant.0 _ _ _ c.requires.3) in (h.listed.items, h.listed.reads)

pub find-requires : goal.find-requires
find-requires c =
    let h = c.loop-self.invariant.0 _ _ _ c.requires.3 in (moved_over _ c.loop-self.self.walk c.item_at.result.1 h.over).walk_is

pub loop-self-preserved : goal.loop-self-preserved
loop-self-preserved c =
    let item = c.item_at in (
      λ t all done h.
          let then = c.loop-self.invariant.0 t all done h in
          own_passed t c.loop-self.self all done then item.result.1 item.ensures.further c.find.new.self (items_walked _ _ _ c.find.ensures.passed)
          (rw c.in-None-default.is-0 at item.ensures.listed c.loop-self.self.model all done c.loop-self.self.fetched (own_text t _ all done then).listed),
      omega (arith, c.loop-self.invariant.1, item.ensures.further, c.find.ensures.passed.from),
    )

pub span_of-span-requires : goal.span_of-span-requires
span_of-span-requires c = let h = c.loop-self.invariant.0 _ _ _ c.requires.3 in omega (arith, h.few, h.listed.within, h.limit)

pub overflow_add-self : goal.overflow_add-self
overflow_add-self c =
    let h = c.loop-self.invariant.0 _ _ _ c.requires.3 in omega (arith, h.few, h.listed.within, h.limit, c.fetch_count.ensures.few)

pub returns-in-Some-default-clause-next : goal.returns-in-Some-default-clause-next
returns-in-Some-default-clause-next c t all done h =
    let then = c.loop-self.invariant.0 t all done h in
    let now = own_text t c.loop-self.self all done then in
    let item = c.item_at in
    let span = c.span_of-span in
    own_found t c.loop-self.self all done then item.result.1 item.ensures.further c.in-Some-default.read
    (rw c.in-Some-default.is-0 at item.ensures.listed c.loop-self.self.model all done c.loop-self.self.fetched now.listed)
    (rw c.in-Some-default.is-0 at item.ensures.item now.listed.items now.listed.reads) (rw c.in-Some-default.is-0 at item.ensures.parts)
    span.result span.ensures.directive span.ensures.parts span.ensures.offsets c.fetch_count.result (c.fetch_count.ensures.count c.loop-self.self.model)
    c.fetch_count.ensures.few

pub returns-clause-next : goal.returns-clause-next
returns-clause-next c t all done h =
    let now = own_text _ _ _ _ (c.loop-self.invariant.0 t all done h) in
    ahead_ends _ c.loop-self.self all done now (omega (arith, c.loop-self-test.false))
