use Rattle.std.proofs.Common.{arith}
use Rattle.pf_posix.specs.ListComparisons.{HasLeft}
use Rattle.pf_posix.proofs.DifferenceLemmas.{left_none}
use Rattle.pf_posix.proofs.types_in_order.TypesInOrder.fill.Goals as goal

pub item_at-requires-clause-reads : goal.item_at-requires-clause-reads
item_at-requires-clause-reads c =
    let h = c.loop-self.invariant c.requires.0 c.requires.1 in
    (HasLeft.items h, HasLeft.reads h)

pub returns-else-self : goal.returns-else-self
returns-else-self c types h =
    let now = c.loop-self.invariant types h in
    (now, λ some. absurd (some (left_none c.args.model c.loop-self.self types now c.loop-self-test.true (omega (arith, c.if-self.false)))))
