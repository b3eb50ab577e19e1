use Rattle.std.proofs.Common.{◌≤◌, ◌-◌, ◌∙◌, ◌∷◌, [], ap, arith, drop, length, refl, subst, sym, take}
use Rattle.std.proofs.lemmas.List.{drop-drop}
use Rattle.pf_text.specs.Signatures.{ReadsTyped}
use Rattle.pf_text.proofs.NoItemLemmas.{no_item}
use Rattle.pf_text.proofs.ReadingLemmas.{HasTyped, typed_all, typed_item, typed_none, typed_passed_too}
use Rattle.pf_text.proofs.WalkLemmas.{items_walked}
use Rattle.pf_text.proofs.known_argument_types.known_types.Goals as goal

pub loop-model-init : goal.loop-model-init
loop-model-init c = record {
  room = omega arith;
  typed = typed_none c.args.model c.args.text.now c.new-walk.result c.new-walk.ensures.over c.new-walk.ensures.at;
  rest = refl;
}

pub loop-model-preserved : goal.loop-model-preserved
loop-model-preserved c =
    let model = c.args.model in
    let text = c.args.text.now in
    let here = c.find.new.self in
    let found = take c.loop-model.count c.loop-model.types in
    let now = typed_passed_too model text c.loop-model.walk here found c.loop-model.invariant.typed (items_walked _ _ _ c.find.ensures.passed) in
    let item = c.in_ok-arg_type in
    let within : item.stop ≤ length here.text.now = subst (λ t. item.stop ≤ length t) c.text.ensures item.ensures.1 in
    let typed : ReadsTyped model (take (item.stop - here.at) (drop here.at here.text.now)) (item.arg_type ∷ []) =
    subst (λ t. ReadsTyped model (take (item.stop - here.at) (drop here.at t)) (item.arg_type ∷ [])) c.text.ensures item.ensures.2 in
    let more = typed_item model text here item.stop found (item.arg_type ∷ []) now (omega (arith, item.ensures.0)) within typed in
    record {
      room = c.in_ok-count.ensures.1;
      typed = subst (HasTyped model text (record here { at = item.stop })) (sym c.in_ok-count.ensures.2) more;
      rest = c.in_ok-count.ensures.3 ∙ rw c.in_ok-count.ensures.0 (sym (drop-drop 1 c.loop-model.count c.loop-model.types)
          ∙ ap (drop 1) c.loop-model.invariant.rest ∙ drop-drop 1 c.loop-model.count c.args.types.now);
    }

pub returns-then-walk-text : goal.returns-then-walk-text
returns-then-walk-text c =
    let found = take c.loop-model.count c.loop-model.types in
    let now = typed_passed_too c.args.model c.args.text.now c.loop-model.walk c.find.new.self found c.loop-model.invariant.typed
    (items_walked _ _ _ c.find.ensures.passed) in (
      c.loop-model.invariant.room,
      typed_all c.args.model c.args.text.now c.find.new.self found now
          (no_item c.find.new.self.text.now c.find.new.self.at (c.find.ensures.ended c.loop-model-test.false)) c.if-walk-text.true,
      c.loop-model.invariant.rest,
    )
