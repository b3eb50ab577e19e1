use Rattle.std.proofs.Common.{◌≡◌, sym, ap, arith}
use Rattle.std.proofs.Math.Nat.{min-eq_left}
use Rattle.pf_whole.proofs.CallLoops.{both_call, calls_apart, calls_from_start, calls_together, first_goes_on, next_of, placed_same}
use Rattle.pf_whole.proofs.CallLoops.{second_goes_on}
use Rattle.pf_whole.proofs.calls.first_call_difference.Goals as goal

pub loop-call-init : goal.loop-call-init
loop-call-init c = calls_from_start c.args.model _ _ _ _ c.requires.first.reads c.requires.second.reads

pub next_call-requires-clause-few : goal.next_call-requires-clause-few
next_call-requires-clause-few c = c.loop-call.invariant.few

pub next_call-requires-clause-within : goal.next_call-requires-clause-within
next_call-requires-clause-within c = c.loop-call.invariant.within

pub next_call-requires-clause-reads : goal.next_call-requires-clause-reads
next_call-requires-clause-reads c = let i = c.loop-call.invariant in (i.left, i.left_reads)

pub next_call-requires-in-Some-clause-few : goal.next_call-requires-in-Some-clause-few
next_call-requires-in-Some-clause-few c = c.loop-call.invariant.few_other

pub next_call-requires-in-Some-clause-within : goal.next_call-requires-in-Some-clause-within
next_call-requires-in-Some-clause-within c = c.loop-call.invariant.within_other

pub next_call-requires-in-Some-clause-reads : goal.next_call-requires-in-Some-clause-reads
next_call-requires-in-Some-clause-reads c = let i = c.loop-call.invariant in (i.more, i.more_reads)

pub next_call-requires-2-clause-few : goal.next_call-requires-2-clause-few
next_call-requires-2-clause-few c = c.loop-call.invariant.few_other

pub next_call-requires-2-clause-within : goal.next_call-requires-2-clause-within
next_call-requires-2-clause-within c = c.loop-call.invariant.within_other

pub next_call-requires-2-clause-reads : goal.next_call-requires-2-clause-reads
next_call-requires-2-clause-reads c = let i = c.loop-call.invariant in (i.more, i.more_reads)

pub returns-in_default-next_call : goal.returns-in_default-next_call
returns-in_default-next_call c =
    let i = c.loop-call.invariant in
    first_goes_on c.args.model c.args.first.now c.args.second.now c.loop-call.one c.loop-call.two c.in-Some.call c.in-Some.after i
    (c.in-Some.ensures i.left i.left_reads) (c.in_default-next_call.ensures i.more i.more_reads)

pub returns-in-Some-next_call-2 : goal.returns-in-Some-next_call-2
returns-in-Some-next_call-2 c =
    let i = c.loop-call.invariant in
    second_goes_on c.args.model c.args.first.now c.args.second.now c.loop-call.one c.loop-call.two c.in-Some-next_call-2.other c.in-Some-next_call-2.field-0-1 i
    (c.in_default.ensures i.left i.left_reads) (c.in-Some-next_call-2.ensures i.more i.more_reads)

pub returns-in-None : goal.returns-in-None
returns-in-None c =
    let i = c.loop-call.invariant in
    calls_together c.args.model c.args.first.now c.args.second.now c.loop-call.one c.loop-call.two i (c.in_default.ensures i.left i.left_reads)
    (c.in-None.ensures i.more i.more_reads)

pub returns-then-call-other : goal.returns-then-call-other
returns-then-call-other c =
    let i = c.loop-call.invariant in
    calls_apart c.args.model c.args.first.now c.args.second.now c.loop-call.one c.loop-call.two c.in-Some.call c.in-Some-next_call.other c.in-Some.after
    c.in-Some-next_call.after_other i (c.in-Some.ensures i.left i.left_reads) (c.in-Some-next_call.ensures i.more i.more_reads) c.min.result c.min.ensures
    (λ e. c.if-call-other.true (ap (λ x. x.index) e))

pub returns-then-not-make_one_call : goal.returns-then-not-make_one_call
returns-then-not-make_one_call c =
    let i = c.loop-call.invariant in
    let same : c.in-Some.call.index ≡ c.in-Some-next_call.other.index = c.if-call-other.false in
    calls_apart c.args.model c.args.first.now c.args.second.now c.loop-call.one c.loop-call.two c.in-Some.call c.in-Some-next_call.other c.in-Some.after
    c.in-Some-next_call.after_other i (c.in-Some.ensures i.left i.left_reads) (c.in-Some-next_call.ensures i.more i.more_reads) c.in-Some.call.index
    (sym (min-eq_left (omega (arith, same))))
    (λ e. let yes = c.make_one_call.ensures.1 (ap (λ x. x.spelling) e) in cc)

pub loop-call-preserved : goal.loop-call-preserved
loop-call-preserved c =
    let i = c.loop-call.invariant in
    let call = c.in-Some.call in
    let other = c.in-Some-next_call.other in
    let same : call.index ≡ other.index = c.if-call-other.false in
    let spelling = c.make_one_call.ensures.0 c.if-not-make_one_call.false in
    both_call c.args.model c.args.first.now c.args.second.now c.loop-call.one c.loop-call.two call other c.in-Some.after c.in-Some-next_call.after_other i
    (c.in-Some.ensures i.left i.left_reads) (c.in-Some-next_call.ensures i.more i.more_reads) (placed_same _ _ _ _ same spelling)

pub loop-call-smaller : goal.loop-call-smaller
loop-call-smaller c =
    let i = c.loop-call.invariant in
    let next = next_of c.args.model c.args.first.now i.left c.loop-call.one c.in-Some.call c.in-Some.after (c.in-Some.ensures i.left i.left_reads) in
    omega (arith, next.is.further, next.is.within)
