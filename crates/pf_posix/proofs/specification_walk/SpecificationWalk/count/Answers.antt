use Rattle.std.proofs.Common.{◌∙◌, ◌+◌, [], ap, arith, length, length-append, map, refl, sym}
use Rattle.std.proofs.lemmas.List.{length-map, length_push}
use Rattle.pf_posix.proofs.SpecificationWalkLemmas.{behind_next, directive_of, none_behind}
use Rattle.pf_posix.proofs.specification_walk.SpecificationWalk.count.Goals as goal

pub loop-count-init : goal.loop-count-init
loop-count-init c t all done h = ([], none_behind t _ all done h, refl)

pub next-requires : goal.next-requires
next-requires c = let r = c.requires in let i = c.loop-count.invariant r.0 r.1 r.2 r.3 in (r.0, r.1, _, i.1.ahead)

pub overflow_add-count : goal.overflow_add-count
overflow_add-count c =
    let r = c.requires in
    let i = c.loop-count.invariant r.0 r.1 r.2 r.3 in
    omega (arith, i.1.ahead.apart, length-append r.2 (map directive_of i.0), length-map i.0 directive_of, i.1.ahead.listed.within, i.1.ahead.limit, i.2)

pub loop-count-smaller : goal.loop-count-smaller
loop-count-smaller c =
    let r = c.requires in
    let i = c.loop-count.invariant r.0 r.1 r.2 r.3 in
    let next = c.in-Some.ensures.next r.0 r.1 _ i.1.ahead in
    let further = c.in-Some.ensures.further in omega (arith, next.0.listed.within, ap length r.3.text_is, further)

pub loop-count-preserved : goal.loop-count-preserved
loop-count-preserved c t all done h =
    let i = c.loop-count.invariant t all done h in
    let span = c.in-Some.field-0 in
    let next = c.in-Some.ensures.next t all _ i.1.ahead in
    (_, behind_next t _ all done i.0 span i.1.each next, length_push i.0 span ∙ ap (λ n. n + 1) i.2)

pub returns : goal.returns
returns c t all done h =
    let i = c.loop-count.invariant t all done h in
    (i.0, record { all_are = sym (c.in_default.ensures.next t all _ i.1.ahead); each = i.1.each }, sym i.2)
