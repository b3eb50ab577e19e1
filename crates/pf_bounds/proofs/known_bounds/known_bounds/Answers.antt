use Rattle.std.proofs.Common.{◌≡◌, ◌+◌, ◌-◌, ◌^◌, ◌≤◌, ◌∙◌, arith, drop, length, refl, subst, sym, take}
use Rattle.std.proofs.lemmas.List.{length-take, length-take-le}
use Rattle.pf_values.specs.declared.limits.TheConstants.{MAX_TEXT_LEN}
use Rattle.pf_text.proofs.ReadingLemmas.{moved_over, still_over, still_within, text_is}
use Rattle.pf_bounds.specs.Tallies.{IsTallied}
use Rattle.pf_bounds.proofs.TallyLemmas.{none_tallied, passed_tallied, small_tally, tallied_more, whole_tallied}
use Rattle.pf_text.proofs.WalkLemmas.{items_walked}
use Rattle.pf_bounds.proofs.known_bounds.known_bounds.Goals as goal

pub loop-model-init : goal.loop-model-init
loop-model-init c =
    let none = c.exactly-sum.ensures in
    record {
      over = c.new-walk.ensures.over;
      at = c.new-walk.ensures.at;
      within = omega arith;
      tallied = none_tallied c.args.model c.args.text.now c.exactly-sum.result none.least none.spread none.bounded;
    }

pub plus-requires-clause-few_more : goal.plus-requires-clause-few_more
plus-requires-clause-few_more c =
    let text = c.args.text.now in
    let i = c.loop-model.invariant in
    let within = still_within _ text (omega (arith, c.if-text-gt-MAX_TALLIED.false)) c.loop-model.walk c.find.new.self i.over
    (items_walked _ _ _ c.find.ensures.passed)
    (omega (arith, i.at, i.within)) in
    (omega (arith, c.exactly.ensures.least, within, c.if-text-gt-MAX_TALLIED.false), omega (arith, c.exactly.ensures.spread))

pub plus-sum-requires-clause-few : goal.plus-sum-requires-clause-few
plus-sum-requires-clause-few c =
    let text = c.args.text.now in
    let i = c.loop-model.invariant in
    let few : length text ≤ 2 ^ 32 = omega (arith, c.if-text-gt-MAX_TALLIED.false) in
    let within = still_within _ text (omega (arith, few)) c.loop-model.walk c.find.new.self i.over
    (items_walked _ _ _ c.find.ensures.passed) (omega (arith, i.at, i.within)) in
    let old = small_tally c.args.model (take c.loop-model.from text) c.loop-model.sum
    (omega (arith, few, i.within, length-take-le c.loop-model.from text i.within)) i.tallied in
    (omega (arith, c.plus.ensures.least, c.exactly.ensures.least, within, few, old.0), omega (arith, c.plus.ensures.spread, c.exactly.ensures.spread, old.1))

pub plus-sum-requires-clause-few_more : goal.plus-sum-requires-clause-few_more
plus-sum-requires-clause-few_more c =
    let text = c.args.text.now in
    let i = c.loop-model.invariant in
    let item = c.in_ok-item in
    let here = c.find.new.self in
    let few : length text ≤ 2 ^ 32 = omega (arith, c.if-text-gt-MAX_TALLIED.false) in
    let same : c.text.result.now ≡ text = c.text.ensures ∙ text_is _ text (omega (arith, few)) c.loop-model.walk here i.over
    (items_walked _ _ _ c.find.ensures.passed) in
    let within : item.stop ≤ length text = subst (λ t. item.stop ≤ length t) same item.ensures.1 in
    let part = take (item.stop - here.at) (drop here.at c.text.result.now) in
    let small = small_tally c.args.model part item.item
    (omega (arith, length-take (item.stop - here.at) (drop here.at c.text.result.now), within, few)) item.ensures.2 in
    (omega (arith, small.0), omega (arith, small.1))

pub loop-model-preserved : goal.loop-model-preserved
loop-model-preserved c =
    let model = c.args.model in
    let text = c.args.text.now in
    let i = c.loop-model.invariant in
    let old = c.loop-model.walk in
    let here = c.find.new.self in
    let passed = items_walked _ _ _ c.find.ensures.passed in
    let few : length text ≤ 2 ^ 32 = omega (arith, c.if-text-gt-MAX_TALLIED.false) in
    let short : length text ≤ MAX_TEXT_LEN = omega (arith, few) in
    let low : old.at ≤ length text = omega (arith, i.at, i.within) in
    let item = c.in_ok-item in
    let run = c.exactly.ensures in
    let longer = c.plus.ensures in
    let sum = c.plus-sum.ensures in
    let same : c.text.result.now ≡ text = c.text.ensures ∙ text_is _ text short old here i.over passed in
    let before : IsTallied model (take old.at text) c.loop-model.sum = subst (λ k. IsTallied model (take k text) c.loop-model.sum) (sym i.at) i.tallied in
    let literal = passed_tallied model text short old here i.over passed c.plus.result c.loop-model.sum c.exactly.result low before
    (subst (λ k. c.exactly.result.least ≡ here.at - k) (sym i.at) run.least) run.spread run.bounded
    (record { least = longer.least; spread = longer.spread; bounded = longer.bounded }) in
    let tallied : IsTallied model (take (item.stop - here.at) (drop here.at text)) item.item =
    subst (λ t. IsTallied model (take (item.stop - here.at) (drop here.at t)) item.item) same item.ensures.2 in
    let place : here.at + (item.stop - here.at) ≡ item.stop = omega (arith, item.ensures.0) in
    record {
      over = moved_over text here item.stop (still_over _ text short old here i.over passed);
      at = refl;
      within = subst (λ t. item.stop ≤ length t) same item.ensures.1;
      tallied = subst (λ k. IsTallied model (take k text) c.plus-sum.result) place
          (tallied_more model text here.at (item.stop - here.at) c.plus-sum.result c.plus.result item.item literal tallied
          (record { least = sum.least; spread = sum.spread; bounded = sum.bounded }));
    }

pub returns : goal.returns
returns c =
    let model = c.args.model in
    let text = c.args.text.now in
    let i = c.loop-model.invariant in
    let old = c.loop-model.walk in
    let here = c.find.new.self in
    let passed = items_walked _ _ _ c.find.ensures.passed in
    let few : length text ≤ 2 ^ 32 = omega (arith, c.if-text-gt-MAX_TALLIED.false) in
    let short : length text ≤ MAX_TEXT_LEN = omega (arith, few) in
    let run = c.exactly-2.ensures in
    let sum = c.plus-2.ensures in
    let before : IsTallied model (take old.at text) c.loop-model.sum = subst (λ k. IsTallied model (take k text) c.loop-model.sum) (sym i.at) i.tallied in
    let literal = passed_tallied model text short old here i.over passed c.plus-2.result c.loop-model.sum c.exactly-2.result
    (omega (arith, i.at, i.within)) before (subst (λ k. c.exactly-2.result.least ≡ here.at - k) (sym i.at) run.least) run.spread run.bounded
    (record { least = sum.least; spread = sum.spread; bounded = sum.bounded }) in
    whole_tallied model text here.at c.plus-2.result (omega (arith, c.if-walk-text.false)) short literal
