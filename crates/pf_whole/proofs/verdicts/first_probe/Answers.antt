use Rattle.std.proofs.Common.{ap, arith, subst, inl, inr, None}
use Rattle.pf_values.specs.meaning.Items.{HasItems}
use Rattle.pf_posix.specs.Stretches.{Last}
use Rattle.pf_whole.specs.Answers.{HaveOneShape}
use Rattle.pf_whole.specs.Calls.{IsNextCall}
use Rattle.pf_whole.specs.Comparisons.{IsFoundNext}
use Rattle.pf_whole.specs.Laws.{Correspond}
use Rattle.pf_whole.proofs.CallLoops.{last_of, next_of}
use Rattle.pf_whole.proofs.Corresponding.{alike_is_corresponding}
use Rattle.pf_whole.proofs.FindingLemmas.{shows_neutral, shows_probe}
use Rattle.pf_whole.proofs.HeadLemmas.{between, between_few, first_items, stretch_has}
use Rattle.pf_whole.proofs.ProbeLoops.{IsSearchedUpTo, found_once, searched_end, searched_from, searched_next}
use Rattle.pf_whole.proofs.ShownLoops.{first_tells, first_types, other_before, other_last}
use Rattle.pf_whole.proofs.verdicts.first_probe.Goals as goal

pub loop-stretch-init : goal.loop-stretch-init
loop-stretch-init c =
    let a = c.requires.accepted_first in
    let b = c.requires.accepted_second in record {
      a = a.stretches;
      b = b.stretches;
      left = a.stretches;
      more = b.stretches;
      first = a.reads;
      second = b.reads;
      left_reads = a.reads;
      more_reads = b.reads;
      within = omega arith;
      within_other = omega arith;
      few = omega arith;
      shape = c.requires.shape a.stretches b.stretches a.reads b.reads;
      searched = searched_from c.args.model a.stretches b.stretches;
    }

pub next_stretch-requires : goal.next_stretch-requires
next_stretch-requires c = c.loop-stretch.invariant.within

pub next_stretch-requires-in-Some : goal.next_stretch-requires-in-Some
next_stretch-requires-in-Some c = c.loop-stretch.invariant.within_other

pub unreachable-requires : goal.unreachable-requires
unreachable-requires c = let i = c.loop-stretch.invariant in c.in_default-next_stretch.ensures.head i.more i.more_reads

pub probe_stretches-requires-clause-types : goal.probe_stretches-requires-clause-types
probe_stretches-requires-clause-types c =
    let i = c.loop-stretch.invariant in (
      first_items i.left,
      first_items i.more,
      stretch_has c.args.first.now c.loop-stretch.rest.at i.left c.in-Some.stretch (c.in-Some.ensures.head i.left i.left_reads) c.requires.accepted_first.limit,
      stretch_has c.args.second.now c.loop-stretch.from i.more c.in-Some-next_stretch.other
          (c.in-Some-next_stretch.ensures.head i.more i.more_reads) c.requires.accepted_second.limit,
      first_types c.args.model i.left i.more i.shape,
    )

pub probe_stretches-requires-clause-few : goal.probe_stretches-requires-clause-few
probe_stretches-requires-clause-few c =
    let i = c.loop-stretch.invariant in
    let limit = c.requires.accepted_first.limit in
    omega (arith, i.few, i.within, limit, between_few c.args.first.now c.loop-stretch.rest.at c.in-Some.stretch.end _ limit)

pub returns-in-Neutral : goal.returns-in-Neutral
returns-in-Neutral c = λ x y k l.
    let i = c.loop-stretch.invariant in
    let t = c.args.first.now in
    let u = c.args.second.now in
    let model = c.args.model in
    let first = stretch_has t c.loop-stretch.rest.at i.left c.in-Some.stretch (c.in-Some.ensures.head i.left i.left_reads) c.requires.accepted_first.limit in
    let second = stretch_has u c.loop-stretch.from i.more c.in-Some-next_stretch.other
    (c.in-Some-next_stretch.ensures.head i.more i.more_reads) c.requires.accepted_second.limit in
    let next = subst (IsFoundNext model (between t c.loop-stretch.rest.at c.in-Some.stretch.end)
    (between u c.loop-stretch.from c.in-Some-next_stretch.other.end) c.loop-stretch.rest.index c.loop-stretch.found)
    c.in-Neutral.is c.in_ok-probe_stretches.ensures in
    let tells = i.searched.compared.neutral (first_tells model i.left i.more i.shape (next (first_items i.left) (first_items i.more) first second)) in
    found_once model t u i.a i.b x y None i.first i.second k l
    (inl (shows_neutral model t u i.a i.b i.first i.second (c.requires.shape i.a i.b i.first i.second) tells), tt)

pub call_after-requires-clause-few : goal.call_after-requires-clause-few
call_after-requires-clause-few c = c.loop-stretch.invariant.few

pub call_after-requires-clause-within : goal.call_after-requires-clause-within
call_after-requires-clause-within c = c.loop-stretch.invariant.within

pub call_after-requires-clause-head : goal.call_after-requires-clause-head
call_after-requires-clause-head c = let i = c.loop-stretch.invariant in (i.left, c.in-Some.ensures.head i.left i.left_reads)

pub returns-in_default-call_after : goal.returns-in_default-call_after
returns-in_default-call_after c = λ x y k l.
    let i = c.loop-stretch.invariant in
    let t = c.args.first.now in
    let u = c.args.second.now in
    let model = c.args.model in
    let head = c.in-Some.ensures.head i.left i.left_reads in
    let first = stretch_has t c.loop-stretch.rest.at i.left c.in-Some.stretch head c.requires.accepted_first.limit in
    let second = stretch_has u c.loop-stretch.from i.more c.in-Some-next_stretch.other
    (c.in-Some-next_stretch.ensures.head i.more i.more_reads) c.requires.accepted_second.limit in
    let xs = first_items i.left in
    let ys = first_items i.more in
    let last = last_of model t i.left c.loop-stretch.rest
    (subst (IsNextCall model t i.left c.loop-stretch.rest) c.in_default-call_after.is (c.call_after.ensures i.left head)) in
    let also = other_last model i.more xs (subst (λ a. HaveOneShape model a i.more) last i.shape) in
    let now = c.in-Probe.now in
    let next = subst (IsFoundNext model (between t c.loop-stretch.rest.at c.in-Some.stretch.end)
    (between u c.loop-stretch.from c.in-Some-next_stretch.other.end) c.loop-stretch.rest.index c.loop-stretch.found)
    c.in-Probe.is c.in_ok-probe_stretches.ensures in
    let searched = subst (λ b. IsSearchedUpTo model i.a i.b (Last xs) b c.loop-stretch.rest.index c.loop-stretch.found) also
    (subst (λ a. IsSearchedUpTo model i.a i.b a i.more c.loop-stretch.rest.index c.loop-stretch.found) last i.searched) in
    let apart : ¬ Correspond model i.a i.b = λ same. c.requires.apart ((alike_is_corresponding model t u i.a i.b i.first i.second).1 same) in
    let telling = searched_end model i.a i.b xs ys c.loop-stretch.rest.index c.loop-stretch.found now searched (next xs ys first second) apart in
    found_once model t u i.a i.b x y now i.first i.second k l
    (inr (shows_probe model t u i.a i.b _ i.first i.second (c.requires.shape i.a i.b i.first i.second) telling.0), telling.1)

pub loop-stretch-smaller : goal.loop-stretch-smaller
loop-stretch-smaller c =
    let i = c.loop-stretch.invariant in
    let head = c.in-Some.ensures.head i.left i.left_reads in
    let n = next_of c.args.model c.args.first.now i.left c.loop-stretch.rest _ c.in-Some-call_after.after
    (subst (IsNextCall c.args.model c.args.first.now i.left c.loop-stretch.rest) c.in-Some-call_after.is (c.call_after.ensures i.left head)) in
    omega (arith, n.is.further, n.is.within)

pub loop-stretch-preserved : goal.loop-stretch-preserved
loop-stretch-preserved c =
    let i = c.loop-stretch.invariant in
    let t = c.args.first.now in
    let u = c.args.second.now in
    let model = c.args.model in
    let head = c.in-Some.ensures.head i.left i.left_reads in
    let head_other = c.in-Some-next_stretch.ensures.head i.more i.more_reads in
    let first = stretch_has t c.loop-stretch.rest.at i.left c.in-Some.stretch head c.requires.accepted_first.limit in
    let second = stretch_has u c.loop-stretch.from i.more c.in-Some-next_stretch.other head_other c.requires.accepted_second.limit in
    let n = next_of model t i.left c.loop-stretch.rest _ c.in-Some-call_after.after
    (subst (IsNextCall model t i.left c.loop-stretch.rest) c.in-Some-call_after.is (c.call_after.ensures i.left head)) in
    let other = other_before model u c.loop-stretch.from i.more c.in-Some-next_stretch.other n.items _ n.later
    (subst (λ a. HaveOneShape model a i.more) n.left_is i.shape) head_other in
    let next = subst (IsFoundNext model (between t c.loop-stretch.rest.at c.in-Some.stretch.end)
    (between u c.loop-stretch.from c.in-Some-next_stretch.other.end) c.loop-stretch.rest.index c.loop-stretch.found)
    c.in-Probe.is c.in_ok-probe_stretches.ensures in
    let xs_are = ap first_items n.left_is in
    let finding = next n.items other.items (subst (HasItems (between t c.loop-stretch.rest.at c.in-Some.stretch.end)) xs_are first)
    (record { reads = other.reads; limit = second.limit }) in
    record {
      a = i.a;
      b = i.b;
      left = n.later;
      more = other.others;
      first = i.first;
      second = i.second;
      left_reads = n.is.reads;
      more_reads = other.later;
      within = n.is.within;
      within_other = c.in-Some-next_stretch.ensures.placed.within;
      few = n.is.few;
      shape = other.shape;
      searched = searched_next model i.a i.b i.left i.more n.later other.others n.items other.items _ _ c.loop-stretch.rest.index
          c.in-Some-call_after.after.index c.loop-stretch.found c.in-Probe.now n.left_is other.more_is i.searched finding other.spelling n.is.after_is;
    }

pub unreachable-requires-2 : goal.unreachable-requires-2
unreachable-requires-2 c = let i = c.loop-stretch.invariant in c.in_default.ensures.head i.left i.left_reads
