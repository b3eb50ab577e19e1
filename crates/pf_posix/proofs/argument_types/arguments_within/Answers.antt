use Rattle.std.proofs.Common.{◌≤◌, ◌∙◌, ap, arith, length, refl, subst, sym, take}
use Rattle.std.specs.Prelude.{MatchResult}
use Rattle.pf_values.specs.declared.limits.TheConstants.{MAX_TEXT_LEN}
use Rattle.pf_posix.specs.Endings.{end_refusal}
use Rattle.pf_posix.specs.Laws.{HasCount}
use Rattle.pf_posix.specs.Plain.{IsPlainFront, IsPut}
use Rattle.pf_posix.specs.Refusals.{IsWholeRefusedAt}
use Rattle.pf_text.proofs.ReadingLemmas.{moved_over}
use Rattle.pf_posix.proofs.FrontRefusals.{IsRefused}
use Rattle.pf_posix.proofs.PlainFrontLemmas.{front_ended, front_others, front_put, front_walked, front_whole, no_front, none_put, put_few, was_put}
use Rattle.pf_text.proofs.WalkLemmas.{items_walked}
use Rattle.pf_posix.proofs.argument_types.arguments_within.Goals as goal

pub loop-model-init : goal.loop-model-init
loop-model-init c =
    let t = c.new-walk.result.text.now in
    record {
      over = c.new-walk.ensures.over;
      within = omega (arith, c.new-walk.ensures.at);
      few = omega arith;
      same = refl;
      front = subst (λ k. IsPlainFront c.args.model t k c.args.out.now c.args.out.now 0) (sym c.new-walk.ensures.at) (no_front c.args.model t c.args.out.now);
    }

pub other_arguments-requires-clause-front : goal.other_arguments-requires-clause-front
other_arguments-requires-clause-front c =
    let i = c.loop-model.invariant in
    (front_walked c.args.model c.args.out.now c.loop-model.out c.loop-model.count c.loop-model.walk c.find.new.self
    (items_walked _ _ _ c.find.ensures.passed) i.front i.within).0.plain

pub other_arguments-requires-clause-never : goal.other_arguments-requires-clause-never
other_arguments-requires-clause-never c =
    let here = c.find.new.self in
    let front = c.put_specification-front in
    let put = subst (λ u. IsPut c.args.model u here.at c.loop-model.out front.new.out c.loop-model.count front.result) c.text.ensures front.ensures in
    (none_put c.args.model here.text.now here.at c.loop-model.out front.new.out c.loop-model.count front.result put c.if-front-walk.true).3

pub other_arguments-requires-clause-errno : goal.other_arguments-requires-clause-errno
other_arguments-requires-clause-errno c =
    let here = c.find.new.self in
    let front = c.put_specification-front in
    let put = subst (λ u. IsPut c.args.model u here.at c.loop-model.out front.new.out c.loop-model.count front.result) c.text.ensures front.ensures in
    (none_put c.args.model here.text.now here.at c.loop-model.out front.new.out c.loop-model.count front.result put c.if-front-walk.true).2

pub returns-then-front-walk-clause-types : goal.returns-then-front-walk-clause-types
returns-then-front-walk-clause-types c =
    let i = c.loop-model.invariant in
    let model = c.args.model in
    let here = c.find.new.self in
    let t = here.text.now in
    let passed = items_walked _ _ _ c.find.ensures.passed in
    let now = front_walked model c.args.out.now c.loop-model.out c.loop-model.count c.loop-model.walk here passed i.front i.within in
    let front = c.put_specification-front in
    let put = subst (λ u. IsPut model u here.at c.loop-model.out front.new.out c.loop-model.count front.result) c.text.ensures front.ensures in
    let none = none_put model t here.at c.loop-model.out front.new.out c.loop-model.count front.result put c.if-front-walk.true in
    let other = c.other_arguments in
    let types = subst (λ l. MatchResult other.result (λ count. HasCount model t l other.new.out count)
    (λ refusal. IsWholeRefusedAt model t refusal.kind refusal.at))
    none.1 other.ensures.types in
    subst (λ u. MatchResult other.result (λ count. HasCount model u c.args.out.now other.new.out count)
    (λ refusal. IsWholeRefusedAt model u refusal.kind refusal.at)) (passed.text ∙ i.over.text_is)
    (front_others model t here.at c.args.out.now c.loop-model.out c.loop-model.count now.0 other.new.out other.result types other.ensures.none)

pub loop-model-preserved : goal.loop-model-preserved
loop-model-preserved c =
    let i = c.loop-model.invariant in
    let model = c.args.model in
    let here = c.find.new.self in
    let t = here.text.now in
    let passed = items_walked _ _ _ c.find.ensures.passed in
    let now = front_walked model c.args.out.now c.loop-model.out c.loop-model.count c.loop-model.walk here passed i.front i.within in
    let front = c.put_specification-front in
    let read = subst (λ u. IsPut model u here.at c.loop-model.out front.new.out c.loop-model.count front.result) c.text.ensures front.ensures in
    let put = was_put model t here.at c.loop-model.out front.new.out c.loop-model.count front.result read c.if-front-walk.false in
    let few : c.loop-model.count ≤ here.at = omega (arith, i.few, passed.from) in
    record {
      over = moved_over c.args.text.now here front.result.at (record { walk_is = passed.walk; text_is = passed.text ∙ i.over.text_is });
      within = put.plain.within;
      few = put_few model t here.at c.loop-model.out front.new.out c.loop-model.count front.result.at front.result.count put few;
      same = put.same_length ∙ i.same;
      front = front_put model t here.at c.args.out.now c.loop-model.out c.loop-model.count now.0 front.new.out front.result.at front.result.count put;
    }

pub returns-then-walk-text-clause-types : goal.returns-then-walk-text-clause-types
returns-then-walk-text-clause-types c =
    let i = c.loop-model.invariant in
    let model = c.args.model in
    let here = c.find.new.self in
    let t = here.text.now in
    let passed = items_walked _ _ _ c.find.ensures.passed in
    let whole = take MAX_TEXT_LEN c.args.text.now in
    let now = front_walked model c.args.out.now c.loop-model.out c.loop-model.count c.loop-model.walk here passed i.front i.within in
    let ended = front_ended model t here.at c.args.out.now c.loop-model.out c.loop-model.count now.0 passed.walk.few
    (omega (arith, c.if-walk-text.true, ap length c.text-2.ensures)) (c.find.ensures.ended c.loop-model-test.false) in
    subst (IsRefused model whole) (sym c.refusal_at.ensures)
    (subst (λ u. IsRefused model whole (end_refusal u here.at)) (sym c.text-then-walk-text.ensures)
    (subst (λ u. IsRefused model u (end_refusal t here.at)) (passed.text ∙ i.over.text_is) ended))

pub returns-clause-types : goal.returns-clause-types
returns-clause-types c =
    let i = c.loop-model.invariant in
    let model = c.args.model in
    let here = c.find.new.self in
    let t = here.text.now in
    let passed = items_walked _ _ _ c.find.ensures.passed in
    let now = front_walked model c.args.out.now c.loop-model.out c.loop-model.count c.loop-model.walk here passed i.front i.within in
    subst (λ u. HasCount model u c.args.out.now c.loop-model.out c.loop-model.count) (passed.text ∙ i.over.text_is)
    (front_whole model t here.at c.args.out.now c.loop-model.out c.loop-model.count now.0 (omega (arith, c.if-walk-text.false, ap length c.text-2.ensures))
    passed.walk.few)
