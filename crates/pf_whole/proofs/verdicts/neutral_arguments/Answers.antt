use Rattle.std.proofs.Common.{◌++◌, None, replicate, arith, refl, sym, ap, ◌∙◌, subst}
use Rattle.pf_posix.specs.OpaqueParts.{item_of_opaque}
use Rattle.pf_posix.proofs.ReadOnce.{read_once}
use Rattle.pf_whole.proofs.CountLemmas.{opaque_args}
use Rattle.pf_whole.proofs.HeadLemmas.{at_last, before_opaque, between, between_few, first_items, less_left, stretch_has}
use Rattle.pf_whole.proofs.ShownLoops.{AreShownNeutrally, IsNeutralUpTo, IsTypedUpTo, neutral_end, neutral_past, typed_end, typed_from, typed_past}
use Rattle.pf_whole.proofs.verdicts.neutral_arguments.Goals as goal

pub loop-stretch-init : goal.loop-stretch-init
loop-stretch-init c =
    let a = c.requires in
    let none = sym c.in_ok-shown.ensures in record {
      all = a.stretches;
      left = a.stretches;
      reads = a.reads;
      reads_left = a.reads;
      within = omega arith;
      neutral = subst (IsNeutralUpTo c.args.model a.stretches a.stretches) none refl;
      typed = subst (IsTypedUpTo c.args.model a.stretches a.stretches) none (typed_from c.args.model a.stretches);
    }

pub next_stretch-requires : goal.next_stretch-requires
next_stretch-requires c = c.loop-stretch.invariant.within

pub push_stretch-requires : goal.push_stretch-requires
push_stretch-requires c =
    let i = c.loop-stretch.invariant in (
      first_items i.left,
      stretch_has c.args.text.now c.loop-stretch.at i.left c.in-Some.stretch
          (c.in-Some.ensures.head i.left i.reads_left) c.requires.limit,
    )

pub returns-in_default-opaque : goal.returns-in_default-opaque
returns-in_default-opaque c = λ a reads.
    let i = c.loop-stretch.invariant in
    let t = c.args.text.now in
    let model = c.args.model in
    let head = c.in-Some.ensures.head i.left i.reads_left in
    let has = stretch_has t c.loop-stretch.at i.left c.in-Some.stretch head c.requires.limit in
    let last = at_last t c.loop-stretch.at i.left c.in-Some.stretch head c.in_default-opaque.is in
    let items = first_items i.left in
    let shown = c.loop-stretch.shown.items in
    let added = c.in_ok-push_stretch.ensures items has.reads in
    let args = added.0 in
    let neutral = added.1 in
    let given = sym added.2 in
    let all = neutral_end model i.all items shown args (subst (λ l. IsNeutralUpTo model i.all l shown) last.0 i.neutral) neutral.args_are in
    let typed = typed_end model i.all items shown args (subst (λ l. IsTypedUpTo model i.all l shown) last.0 i.typed) neutral.types_are in
    subst (λ b. AreShownNeutrally model b c.push_stretch.new.shown.items) (read_once t i.all a i.reads reads)
    (subst (AreShownNeutrally model i.all) given (all, typed))

pub loop-stretch-smaller : goal.loop-stretch-smaller
loop-stretch-smaller c = less_left c.args.text.now c.loop-stretch.at c.in-Some.stretch _ c.in-Some.ensures.placed c.in-Some-opaque.is

pub loop-stretch-preserved : goal.loop-stretch-preserved
loop-stretch-preserved c =
    let i = c.loop-stretch.invariant in
    let t = c.args.text.now in
    let model = c.args.model in
    let stretch = c.in-Some.stretch in
    let before = before_opaque t c.loop-stretch.at i.left stretch c.in-Some-opaque.opaque (c.in-Some.ensures.head i.left i.reads_left) c.in-Some-opaque.is in
    let s = item_of_opaque c.in-Some-opaque.opaque in
    let own = opaque_args model (between t stretch.end stretch.after) s before.spells (between_few t stretch.end stretch.after _ c.requires.limit) in
    let count = c.call_argument_count.ensures model in
    let shown = c.loop-stretch.shown.items in
    let added = c.in_ok-push_stretch.ensures before.items before.reads in
    let args = added.0 in
    let neutral = added.1 in
    let given = sym (c.in_ok-push_any.ensures ∙ ap (λ l. l ++ replicate c.call_argument_count.result None) added.2) in record {
      all = i.all;
      left = before.rest;
      reads = i.reads;
      reads_left = before.later;
      within = c.in-Some.ensures.placed.within;
      neutral = subst (IsNeutralUpTo model i.all before.rest) given
          (neutral_past model i.all before.rest before.items s shown args c.call_argument_count.result
          (subst (λ l. IsNeutralUpTo model i.all l shown) before.left_is i.neutral) neutral.args_are count);
      typed = subst (IsTypedUpTo model i.all before.rest) given
          (typed_past model i.all before.rest before.items s shown args c.call_argument_count.result
          (subst (λ l. IsTypedUpTo model i.all l shown) before.left_is i.typed) neutral.types_are count);
    }

pub unreachable-requires : goal.unreachable-requires
unreachable-requires c = let i = c.loop-stretch.invariant in c.in_default.ensures.head i.left i.reads_left
