use Rattle.std.proofs.Common.{[], ◌≤◌, ap, arith, drop, false, length, subst, take}
use Rattle.std.proofs.lemmas.List.{take_all, take_rest}
use Rattle.pf_values.specs.declared.limits.TheConstants.{MAX_TEXT_LEN}
use Rattle.pf_text.specs.Walks.{AreItems, Either, IsMadeOf, IsNormalInEach}
use Rattle.pf_canon.specs.ChangedDirectives.{between}
use Rattle.pf_canon.specs.Languages.{DecidesIn}
use Rattle.pf_canon.proofs.ItemLemmas.{all_of_it, front_of_walk}
use Rattle.pf_canon.proofs.KnownLemmas.{IsKeptIn, all_kept, directive_kept, made_kept, none_kept, other_kept, other_known, three_parts, two_parts}
use Rattle.pf_canon.proofs.plain_canonical.known_canonical.Goals as goal

pub loop-at-init : goal.loop-at-init
loop-at-init g c =
    let text = c.args.text.now in
    let walk = c.new-walk.result in
    let end = c.run_end-at in
    let model = c.args.model in
    let place = front_of_walk text walk c.new-walk.ensures.over end.result end.ensures.within.1 in
    record {
      within = place.1;
      kept = made_kept g.L.Language.has_front model g.L.Passed.passes (g.met.L.Language.has_passed model) [] (take end.result text)
          (none_kept g.L.Language.has_front model (g.met.L.Language.has_none model))
          (subst (IsMadeOf (Either (AreItems IsNormalInEach) g.L.Passed.passes)) place.0 end.ensures.passed);
    }

pub run_end-at-requires-in-loop-at-clause-within : goal.run_end-at-requires-in-loop-at-clause-within
run_end-at-requires-in-loop-at-clause-within g c =
    let text = c.args.text.now in
    let whole = all_of_it text c.new-walk.result c.new-walk.ensures.over (omega (arith, c.if-text-gt-MAX_TEXT_LEN.false)) in
    omega (arith, c.in_ok-is_kept.ensures.within, ap length whole)

pub returns-then-not-is_kept : goal.returns-then-not-is_kept
returns-then-not-is_kept g c =
    let model = c.args.model in
    let text = c.args.text.now in
    let at = c.loop-at.at in
    let stop = c.in_ok-is_kept.stop in
    let front = c.in_ok-is_kept.ensures in
    let other = rw c.if-not-is_kept.true at front.known in
    let low : at ≤ stop = omega (arith, front.some) in
    let whole = three_parts text at stop low in
    let has_front = g.L.Language.has_front in
    other_known has_front model text (drop stop text) c.known_other.result
    (λ rest. subst (λ t. DecidesIn has_front model t false) whole
    (other_kept has_front model (take at text) (between at stop text) (drop stop text) front.directive c.loop-at.invariant.kept front.read other.0 other.1
    (omega (arith, ap length whole, c.if-text-gt-MAX_TEXT_LEN.false)) rest))
    (rw take_rest at c.known_other.ensures)

pub loop-at-preserved : goal.loop-at-preserved
loop-at-preserved g c =
    let model = c.args.model in
    let text = c.args.text.now in
    let at = c.loop-at.at in
    let stop = c.in_ok-is_kept.stop in
    let front = c.in_ok-is_kept.ensures in
    let own = rw c.if-not-is_kept.false at front.known in
    let walk = c.new-walk.result in
    let whole = all_of_it text walk c.new-walk.ensures.over (omega (arith, c.if-text-gt-MAX_TEXT_LEN.false)) in
    let end = c.run_end-at-in-loop-at in
    let has_front = g.L.Language.has_front in
    let now = subst (IsKeptIn has_front model) (two_parts text at stop (omega (arith, front.some)))
    (directive_kept has_front model (take at text) (between at stop text) front.directive c.loop-at.invariant.kept own.0 own.1) in
    let run = subst (λ t. IsMadeOf (Either (AreItems IsNormalInEach) g.L.Passed.passes) (between stop end.result t)) whole end.ensures.passed in
    record {
      within = subst (λ t. end.result ≤ length t) whole end.ensures.within.1;
      kept = subst (IsKeptIn has_front model) (two_parts text stop end.result end.ensures.within.0)
          (made_kept has_front model g.L.Passed.passes (g.met.L.Language.has_passed model) (take stop text) (between stop end.result text) now run);
    }

pub returns : goal.returns
returns g c =
    let text = c.args.text.now in
    let has_front = g.L.Language.has_front in
    let short : length text ≤ MAX_TEXT_LEN = omega (arith, c.if-text-gt-MAX_TEXT_LEN.false) in
    all_kept has_front c.args.model text short (subst (IsKeptIn has_front c.args.model)
    (take_all c.loop-at.at text (omega (arith, c.loop-at-test.false))) c.loop-at.invariant.kept)
