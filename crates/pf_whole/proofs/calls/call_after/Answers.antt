use Rattle.std.proofs.Common.{◌≡◌, ◌+◌, map, sym, ap, ◌∙◌, arith, subst, refl, length}
use Rattle.std.specs.Prelude.{Some}
use Rattle.pf_values.specs.meaning.Items.{types}
use Rattle.pf_posix.specs.OpaqueParts.{item_of_opaque}
use Rattle.pf_posix.specs.Types.{widened}
use Rattle.pf_whole.specs.declared.calls.PlacedOpaque.{PlacedOpaque}
use Rattle.pf_whole.specs.declared.calls.Rest.{Rest}
use Rattle.pf_whole.specs.Calls.{IsNextCall}
use Rattle.pf_whole.proofs.CountLemmas.{counted, opaque_args_few, stretch_args, stretch_args_few}
use Rattle.pf_whole.proofs.HeadLemmas.{before_opaque, between, between_few, between_long, first_items, goes_further, stretch_has}
use Rattle.pf_whole.proofs.TraceLemmas.{length_map}
use Rattle.pf_whole.proofs.calls.call_after.Goals as goal

pub argument_count-requires : goal.argument_count-requires
argument_count-requires c =
    let r = c.requires.head in
    let t = c.args.text.now in
    let has = stretch_has t c.args.rest.at r.0 c.args.stretch r.1 c.requires.accepted.limit in
    (map widened (types c.args.model (first_items r.0)), stretch_args c.args.model (between t c.args.rest.at c.args.stretch.end) (first_items r.0) has)

pub overflow_add-index : goal.overflow_add-index
overflow_add-index c =
    let r = c.requires.head in
    let t = c.args.text.now in
    let stretch = c.args.stretch in
    let has = stretch_has t c.args.rest.at r.0 stretch r.1 c.requires.accepted.limit in
    let part = between t c.args.rest.at stretch.end in
    let known = map widened (types c.args.model (first_items r.0)) in
    let count = counted c.args.model part known c.argument_count.result (stretch_args c.args.model part (first_items r.0) has) c.argument_count.ensures in
    omega (
      arith,
      count,
      stretch_args_few c.args.model part (first_items r.0) has.reads,
      has.limit,
      c.requires.few,
      c.requires.within,
      c.requires.accepted.limit,
    )

pub overflow_add-after : goal.overflow_add-after
overflow_add-after c =
    let r = c.requires.head in
    let t = c.args.text.now in
    let stretch = c.args.stretch in
    let head = r.1 in
    let has = stretch_has t c.args.rest.at r.0 stretch head c.requires.accepted.limit in
    let part = between t c.args.rest.at stretch.end in
    let known = map widened (types c.args.model (first_items r.0)) in
    let count = counted c.args.model part known c.argument_count.result (stretch_args c.args.model part (first_items r.0) has) c.argument_count.ensures in
    let before = before_opaque t c.args.rest.at r.0 stretch c.in-Some.opaque head c.in-Some.is in
    let s = item_of_opaque c.in-Some.opaque in
    let own = between t stretch.end stretch.after in
    let few = between_few t stretch.end stretch.after _ c.requires.accepted.limit in
    let more = c.call_argument_count-own.ensures c.args.model in
    omega (
      arith,
      count,
      stretch_args_few c.args.model part (first_items r.0) has.reads,
      has.limit,
      c.requires.few,
      c.requires.within,
      c.requires.accepted.limit,
      more,
      opaque_args_few c.args.model own s before.spells,
      few,
    )

pub returns : goal.returns
returns c = λ left head.
    let t = c.args.text.now in
    let model = c.args.model in
    let stretch = c.args.stretch in
    let opaque = c.in-Some.opaque in
    let placed = c.requires.placed in
    let before = before_opaque t c.args.rest.at left stretch opaque head c.in-Some.is in
    let s = item_of_opaque opaque in
    let part = between t c.args.rest.at stretch.end in
    let own = between t stretch.end stretch.after in
    let has = stretch_has t c.args.rest.at left stretch head c.requires.accepted.limit in
    let items_are : first_items left ≡ before.items = ap first_items before.left_is in
    let count = counted model part (map widened (types model (first_items left))) c.argument_count.result
    (stretch_args model part (first_items left) has) c.argument_count.ensures in
    let many : length (map widened (types model (first_items left))) ≡ length (types model before.items) =
    length_map widened (types model (first_items left)) ∙ ap (λ l. length (types model l)) items_are in
    let more = c.call_argument_count-own.ensures model in
    let call : PlacedOpaque = record { index = c.args.rest.index + c.argument_count.result; opaque = opaque } in
    let after : Rest = record { at = stretch.after; index = c.args.rest.index + c.argument_count.result + c.call_argument_count-own.result } in
    subst (λ l. IsNextCall model t l c.args.rest (Some (call, after))) (sym before.left_is) (record {
      index_is = omega (arith, count, many);
      item_is = refl;
      reads = before.later;
      after_is = omega (arith, count, many, more);
      further = goes_further t c.args.rest.at stretch opaque placed c.in-Some.is;
      within = placed.within;
      few = omega (
        arith,
        count,
        more,
        c.requires.few,
        placed.begins,
        placed.ends,
        stretch_args_few model part (first_items left) has.reads,
        opaque_args_few model own s before.spells,
        between_long t c.args.rest.at stretch.end,
        between_long t stretch.end stretch.after,
      );
    })
