use Rattle.std.proofs.Common.{◌≤◌, [], arith, drop, length, subst, sym, take, refl}
use Rattle.std.proofs.lemmas.List.{length-take}
use Rattle.pf_values.specs.declared.limits.TheConstants.{MAX_TEXT_LEN}
use Rattle.pf_text.specs.FoundDirectives.{BeginsNoItem}
use Rattle.pf_canon.specs.ChangedDirectives.{between}
use Rattle.pf_canon.proofs.ItemLemmas.{front_of_walk, next_run}
use Rattle.pf_canon.proofs.LanguageLemmas.{all_put, item_in, nothing_read, run_verbatim, within_limit}
use Rattle.pf_canon.proofs.SliceLemmas.{place_put}
use Rattle.pf_canon.proofs.canonical_slices.place_in.Goals as goal

pub loop-other-init : goal.loop-other-init
loop-other-init g c = record {
  within = omega arith;
  front = ([], nothing_read g.L.Language.has_front c.args.model (g.met.L.Language.has_none c.args.model) c.args.text.now 0 refl);
}

pub put_items-at-requires-clause-verbatim : goal.put_items-at-requires-clause-verbatim
put_items-at-requires-clause-verbatim g c =
    run_verbatim g.L.Language.has_front c.args.model g.L.Passed.passes (g.met.L.Language.has_passed c.args.model)
    (between c.loop-other.from c.run_end.result c.new-walk.result.text.now) c.run_end.ensures.passed

pub put_items-at-requires-clause-next : goal.put_items-at-requires-clause-next
put_items-at-requires-clause-next g c = next_run g.L.Passed.leaves c.new-walk.result.text.now c.run_end.result c.run_end.ensures.next

pub other_at-requires-clause-within : goal.other_at-requires-clause-within
other_at-requires-clause-within g c =
    (front_of_walk c.args.text.now c.new-walk.result c.new-walk.ensures.over c.put_items-at.result.0 c.put_items-at.ensures.within.1).1

pub other_at-requires-clause-front : goal.other_at-requires-clause-front
other_at-requires-clause-front g c =
    let put = c.put_items-at in
    let place = place_put g.L.Language.has_front c.args.model c.args.text.now c.new-walk.result c.new-walk.ensures.over c.loop-other.from put.result.0 put.result.1
    (omega (arith, c.run_end.ensures.within.0, put.ensures.within.0)) put.ensures.within.1 c.loop-other.invariant.front put.ensures.put.0 put.ensures.put.2 in (
      _,
      all_put g.L.Language.has_front c.args.model (take put.result.0 c.args.text.now) place.0 put.result.1
          (within_limit c.args.text.now put.result.0 place.1.limit) place.1.written,
    )

pub other_at-requires-clause-none : goal.other_at-requires-clause-none
other_at-requires-clause-none g c = subst (λ t. BeginsNoItem (drop c.put_items-at.result.0 t)) c.new-walk.ensures.over.text_is c.put_items-at.ensures.stopped

pub loop-other-preserved : goal.loop-other-preserved
loop-other-preserved g c =
    let text = c.args.text.now in
    let stop = c.in-Ok-Some.other.stop in
    let spelling = c.in-Ok-Some.other.spelling.items in
    let put = c.put_items-at in
    let place = place_put g.L.Language.has_front c.args.model text c.new-walk.result c.new-walk.ensures.over c.loop-other.from put.result.0 put.result.1
    (omega (arith, c.run_end.ensures.within.0, put.ensures.within.0)) put.ensures.within.1 c.loop-other.invariant.front put.ensures.put.0 put.ensures.put.2 in
    let before = all_put g.L.Language.has_front c.args.model (take put.result.0 text) place.0 put.result.1
    (within_limit text put.result.0 place.1.limit) place.1.written in
    let next = (rw c.in-Ok-Some.field-0-is at c.in-Ok-Some.ensures.next) _ before in
    let placed = rw c.in-Ok-Some.field-0-is at c.in-Ok-Some.ensures.placed in
    record {
      within = subst (λ t. stop ≤ length t) (sym c.new-walk.ensures.over.text_is) (omega (arith, placed.1, placed.2, length-take MAX_TEXT_LEN text));
      front = (_, item_in g.L.Language.has_front c.args.model text put.result.0 stop _ spelling before next placed.0 placed.1 placed.3);
    }

pub loop-other-smaller : goal.loop-other-smaller
loop-other-smaller g c =
    let placed = rw c.in-Ok-Some.field-0-is at c.in-Ok-Some.ensures.placed in
    omega (arith, placed.0, placed.1, c.run_end.ensures.within.0, c.put_items-at.ensures.within.0)

pub returns-in-Ok-None : goal.returns-in-Ok-None
returns-in-Ok-None g c =
    let put = c.put_items-at in
    place_put g.L.Language.has_front c.args.model c.args.text.now c.new-walk.result c.new-walk.ensures.over c.loop-other.from put.result.0 put.result.1
    (omega (arith, c.run_end.ensures.within.0, put.ensures.within.0)) put.ensures.within.1 c.loop-other.invariant.front put.ensures.put.0 put.ensures.put.2

pub returns-in-Err : goal.returns-in-Err
returns-in-Err g c =
    let put = c.put_items-at in
    place_put g.L.Language.has_front c.args.model c.args.text.now c.new-walk.result c.new-walk.ensures.over c.loop-other.from put.result.0 put.result.1
    (omega (arith, c.run_end.ensures.within.0, put.ensures.within.0)) put.ensures.within.1 c.loop-other.invariant.front put.ensures.put.0 put.ensures.put.2
