use Rattle.std.proofs.Common.{◌∙◌, arith, sym}
use Rattle.pf_posix.proofs.DifferenceLemmas.{all_same, compared_none, next_differ, next_same, one_shorter}
use Rattle.pf_posix.proofs.comparison.difference_in_order.Goals as goal

pub loop-index-init : goal.loop-index-init
loop-index-init c =
    let h = c.requires.counted in
    compared_none c.args.model c.args.first.now c.args.second.now c.args.count c.args.second_count c.new-one.result c.new-other.result h
    (c.new-one.ensures c.args.model h.types h.first_accepted (omega (arith, h.count_is, c.requires.many)))
    (c.new-other.ensures c.args.model h.others h.second_accepted (omega (arith, h.second_count_is, c.requires.many)))

pub returns-then-number : goal.returns-then-number
returns-then-number c =
    next_differ c.args.model c.args.first.now c.args.second.now c.args.count c.args.second_count c.loop-index.one c.loop-index.other c.loop-index.index
    c.loop-index.invariant (omega (arith, c.loop-index-test.true, c.min-least.ensures)) c.next.new.self c.next-in-loop-index.new.self c.next.result
    c.next-in-loop-index.result c.next.ensures c.next-in-loop-index.ensures
    (λ same. c.if-number.true (c.number.ensures ∙ same ∙ sym c.number-in-loop-index.ensures))

pub loop-index-preserved : goal.loop-index-preserved
loop-index-preserved c =
    next_same c.args.model c.args.first.now c.args.second.now c.args.count c.args.second_count c.loop-index.one c.loop-index.other c.loop-index.index
    c.loop-index.invariant (omega (arith, c.loop-index-test.true, c.min-least.ensures)) c.next.new.self c.next-in-loop-index.new.self c.next.result
    c.next-in-loop-index.result c.next.ensures c.next-in-loop-index.ensures (sym c.number.ensures ∙ c.if-number.false ∙ c.number-in-loop-index.ensures)

pub returns-then-count-second_count : goal.returns-then-count-second_count
returns-then-count-second_count c =
    all_same c.args.model c.args.first.now c.args.second.now c.args.count c.args.second_count c.loop-index.one c.loop-index.other c.loop-index.index
    c.loop-index.invariant (omega (arith, c.loop-index-test.false, c.min-least.ensures)) c.if-count-second_count.true

pub returns : goal.returns
returns c =
    one_shorter c.args.model c.args.first.now c.args.second.now c.args.count c.args.second_count c.loop-index.one c.loop-index.other c.loop-index.index
    c.loop-index.invariant (omega (arith, c.loop-index-test.false, c.min-least.ensures)) c.if-count-second_count.false
