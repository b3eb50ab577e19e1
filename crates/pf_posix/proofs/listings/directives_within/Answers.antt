use Rattle.std.proofs.Common.{◌∙◌, ap, arith, length, refl, subst, sym, take}
use Rattle.std.specs.Prelude.{MatchResult}
use Rattle.pf_values.specs.declared.limits.TheConstants.{MAX_TEXT_LEN}
use Rattle.pf_posix.specs.Directives.{HasDirectiveCount}
use Rattle.pf_posix.specs.Endings.{end_refusal}
use Rattle.pf_posix.specs.Listings.{IsListedFront, IsListedOrNone}
use Rattle.pf_posix.specs.Refusals.{IsWholeRefusedAt}
use Rattle.pf_text.proofs.ReadingLemmas.{moved_over}
use Rattle.pf_posix.proofs.FrontRefusals.{IsRefused}
use Rattle.pf_posix.proofs.ListingLemmas.{front_of, listed_few, listed_more, listed_others, listed_walked, listed_whole, no_listed, none_listed, was_listed}
use Rattle.pf_posix.proofs.PlainFrontLemmas.{front_ended}
use Rattle.pf_text.proofs.WalkLemmas.{items_walked}
use Rattle.pf_posix.proofs.listings.directives_within.Goals as goal

pub loop-model-init : goal.loop-model-init
loop-model-init c =
    let t = c.new-walk.result.text.now in
    let old = c.args.out.now in
    record {
      over = c.new-walk.ensures.over;
      within = omega (arith, c.new-walk.ensures.at);
      few = omega arith;
      few_fetched = omega arith;
      same = refl;
      front = subst (λ k. IsListedFront c.args.model t k old old 0 0) (sym c.new-walk.ensures.at) (no_listed c.args.model t old);
    }

pub other_directives-requires-clause-front : goal.other_directives-requires-clause-front
other_directives-requires-clause-front c =
    let l = c.loop-model in
    (listed_walked c.args.model c.args.out.now l.out l.count l.fetched l.walk c.find.new.self (items_walked _ _ _ c.find.ensures.passed) l.invariant.front
    l.invariant.within).0.plain

pub other_directives-requires-clause-never : goal.other_directives-requires-clause-never
other_directives-requires-clause-never c =
    let l = c.loop-model in
    let here = c.find.new.self in
    let front = c.put_directive-front in
    let put = subst (λ u. IsListedOrNone c.args.model u here.at l.out front.new.out l.count l.fetched front.result) c.text.ensures front.ensures in
    (none_listed c.args.model here.text.now here.at l.out front.new.out l.count l.fetched front.result put c.if-front-walk.true).2

pub other_directives-requires-clause-errno : goal.other_directives-requires-clause-errno
other_directives-requires-clause-errno c =
    let l = c.loop-model in
    let here = c.find.new.self in
    let front = c.put_directive-front in
    let put = subst (λ u. IsListedOrNone c.args.model u here.at l.out front.new.out l.count l.fetched front.result) c.text.ensures front.ensures in
    (none_listed c.args.model here.text.now here.at l.out front.new.out l.count l.fetched front.result put c.if-front-walk.true).1

pub returns-then-front-walk-clause-directives : goal.returns-then-front-walk-clause-directives
returns-then-front-walk-clause-directives c =
    let l = c.loop-model in
    let i = l.invariant in
    let model = c.args.model in
    let here = c.find.new.self in
    let t = here.text.now in
    let passed = items_walked _ _ _ c.find.ensures.passed in
    let now = listed_walked model c.args.out.now l.out l.count l.fetched l.walk here passed i.front i.within in
    let front = c.put_directive-front in
    let put = subst (λ u. IsListedOrNone model u here.at l.out front.new.out l.count l.fetched front.result) c.text.ensures front.ensures in
    let none = none_listed model t here.at l.out front.new.out l.count l.fetched front.result put c.if-front-walk.true in
    let other = c.other_directives in
    let spans = subst (λ o. MatchResult other.result (λ count. HasDirectiveCount model t o other.new.out count)
    (λ refusal. IsWholeRefusedAt model t refusal.kind refusal.at)) none.0 other.ensures.directives in
    subst (λ u. MatchResult other.result (λ count. HasDirectiveCount model u c.args.out.now other.new.out count)
    (λ refusal. IsWholeRefusedAt model u refusal.kind refusal.at)) (passed.text ∙ i.over.text_is)
    (listed_others model t here.at c.args.out.now l.out l.count l.fetched now.0 other.new.out other.result spans other.ensures.none)

pub loop-model-preserved : goal.loop-model-preserved
loop-model-preserved c =
    let l = c.loop-model in
    let i = l.invariant in
    let model = c.args.model in
    let here = c.find.new.self in
    let t = here.text.now in
    let passed = items_walked _ _ _ c.find.ensures.passed in
    let now = listed_walked model c.args.out.now l.out l.count l.fetched l.walk here passed i.front i.within in
    let front = c.put_directive-front in
    let read = subst (λ u. IsListedOrNone model u here.at l.out front.new.out l.count l.fetched front.result) c.text.ensures front.ensures in
    let put = was_listed model t here.at l.out front.new.out l.count l.fetched front.result read c.if-front-walk.false in
    let few = listed_few model t here.at l.out front.new.out l.count l.fetched front.result put (omega (arith, i.few, passed.from))
    (omega (arith, i.few_fetched, passed.from)) in
    record {
      over = moved_over c.args.text.now here front.result.at (record { walk_is = passed.walk; text_is = passed.text ∙ i.over.text_is });
      within = put.plain.within;
      few = few.0;
      few_fetched = few.1;
      same = put.same_length ∙ i.same;
      front = listed_more model t here.at c.args.out.now l.out l.count l.fetched now.0 front.new.out front.result put now.1;
    }

pub returns-then-walk-text-clause-directives : goal.returns-then-walk-text-clause-directives
returns-then-walk-text-clause-directives c =
    let l = c.loop-model in
    let i = l.invariant in
    let model = c.args.model in
    let here = c.find.new.self in
    let t = here.text.now in
    let passed = items_walked _ _ _ c.find.ensures.passed in
    let whole = take MAX_TEXT_LEN c.args.text.now in
    let now = listed_walked model c.args.out.now l.out l.count l.fetched l.walk here passed i.front i.within in
    let plain = front_of model t here.at c.args.out.now l.out l.count l.fetched now.0 in
    let ended = front_ended model t here.at _ _ l.fetched plain passed.walk.few (omega (arith, c.if-walk-text.true, ap length c.text-2.ensures))
    (c.find.ensures.ended c.loop-model-test.false) in
    subst (IsRefused model whole) (sym c.refusal_at.ensures)
    (subst (λ u. IsRefused model whole (end_refusal u here.at)) (sym c.text-then-walk-text.ensures)
    (subst (λ u. IsRefused model u (end_refusal t here.at)) (passed.text ∙ i.over.text_is) ended))

pub returns-clause-directives : goal.returns-clause-directives
returns-clause-directives c =
    let l = c.loop-model in
    let i = l.invariant in
    let model = c.args.model in
    let here = c.find.new.self in
    let t = here.text.now in
    let passed = items_walked _ _ _ c.find.ensures.passed in
    let now = listed_walked model c.args.out.now l.out l.count l.fetched l.walk here passed i.front i.within in
    subst (λ u. HasDirectiveCount model u c.args.out.now l.out l.count) (passed.text ∙ i.over.text_is)
    (listed_whole model t here.at c.args.out.now l.out l.count l.fetched now.0 (omega (arith, c.if-walk-text.false, ap length c.text-2.ensures))
    passed.walk.few)
