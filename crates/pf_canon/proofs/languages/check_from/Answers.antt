use Rattle.std.proofs.Common.{◌≡◌, ◌≤◌, ◌++◌, ap, arith, drop, length, subst, sym, take, ◌∙◌}
use Rattle.std.proofs.lemmas.List.{append_assoc, length-take, take_all}
use Rattle.std.proofs.lemmas.Result.{err_from_is_err_and}
use Rattle.pf_values.specs.declared.limits.TheConstants.{MAX_TEXT_LEN}
use Rattle.pf_text.specs.FoundDirectives.{BeginsNoItem}
use Rattle.pf_text.specs.Walks.{AreRead, Either, IsMadeOf}
use Rattle.pf_canon.specs.Languages.{HasCanonicalIn}
use Rattle.pf_canon.proofs.ItemLemmas.{front_of_walk, walk_between}
use Rattle.pf_canon.proofs.LanguageLemmas.{item_in}
use Rattle.pf_canon.proofs.SettledLemmas.{goes_on, goes_on_to}
use Rattle.pf_canon.proofs.languages.check_from.Goals as goal

pub loop-other-init : goal.loop-other-init
loop-other-init g c =
    let text = c.args.text.now in
    let start = c.args.walk.at in
    let pass = c.items_end_from-at in
    let low = pass.ensures.within.0 in
    let place = front_of_walk text c.args.walk c.requires.over pass.result pass.ensures.within.1 in
    let same = walk_between text c.args.walk c.requires.over start pass.result low pass.ensures.within.1 in
    record {
      within = pass.ensures.within.1;
      none = pass.ensures.stopped;
      read = λ out h. goes_on_to g.L.Language.has_front c.args.model g.L.Passed.passes
          (g.met.L.Language.has_passed c.args.model) text start pass.result low
          place.2 out h (subst (IsMadeOf (Either AreRead g.L.Passed.passes)) same pass.ensures.read);
    }

pub other_at-requires-clause-within : goal.other_at-requires-clause-within
other_at-requires-clause-within g c = (front_of_walk c.args.text.now c.args.walk c.requires.over c.loop-other.at c.loop-other.invariant.within).1

pub other_at-requires-clause-front : goal.other_at-requires-clause-front
other_at-requires-clause-front g c =
    let (out, h) = c.requires.front in
    let read = c.loop-other.invariant.read out h in
    (_, read.1)

pub other_at-requires-clause-none : goal.other_at-requires-clause-none
other_at-requires-clause-none g c = subst (λ t. BeginsNoItem (drop c.loop-other.at t)) c.requires.over.text_is c.loop-other.invariant.none

pub returns-in_err-other : goal.returns-in_err-other
returns-in_err-other g c out h =
    let p = err_from_is_err_and c.from_residual.result c.from_residual.ensures.1 in
    let (more, before) = c.loop-other.invariant.read out h in
    rw (p.1, p.2) (c.in_err-other.ensures.next (out ++ more) before)

pub items_end_from-at-requires-in-Some-clause-within : goal.items_end_from-at-requires-in-Some-clause-within
items_end_from-at-requires-in-Some-clause-within g c =
    let placed = rw c.in-Some.is at c.in_ok-other.ensures.placed in
    subst (λ t. c.in-Some.other.stop ≤ length t) (sym c.requires.over.text_is)
    (omega (arith, placed.1, placed.2, length-take MAX_TEXT_LEN c.args.text.now))

pub loop-other-preserved : goal.loop-other-preserved
loop-other-preserved g c =
    let text = c.args.text.now in
    let other = c.in-Some.other in
    let spelling = other.spelling.items in
    let has_front = g.L.Language.has_front in
    let model = c.args.model in
    let pass = c.items_end_from-at-in-Some in
    let low = pass.ensures.within.0 in
    let placed = rw c.in-Some.is at c.in_ok-other.ensures.placed in
    let place = front_of_walk text c.args.walk c.requires.over pass.result pass.ensures.within.1 in
    let same = walk_between text c.args.walk c.requires.over other.stop pass.result low pass.ensures.within.1 in
    let made = subst (IsMadeOf (Either AreRead g.L.Passed.passes)) same pass.ensures.read in
    record {
      within = pass.ensures.within.1;
      none = pass.ensures.stopped;
      read = λ out h.
          let (more, before) = c.loop-other.invariant.read out h in
          let next = rw c.in-Some.is at c.in_ok-other.ensures.next in
          let front = (out ++ more) ++ spelling in
          let to = item_in has_front model text c.loop-other.at other.stop (out ++ more) spelling before (next (out ++ more) before) placed.0 placed.1
          placed.3 in
          let passed = g.met.L.Language.has_passed model in
          let (own, all) = goes_on_to has_front model g.L.Passed.passes passed text other.stop pass.result low place.2 front
          (goes_on has_front model g.L.Passed.passes passed (take other.stop text) front 0 to) made in
          let whole : front ++ own ≡ out ++ ((more ++ spelling) ++ own) =
          ap (λ t. t ++ own) (append_assoc out more spelling) ∙ append_assoc out (more ++ spelling) own in
          ((more ++ spelling) ++ own, subst (HasCanonicalIn has_front model (take pass.result text)) whole all);
    }

pub loop-other-smaller : goal.loop-other-smaller
loop-other-smaller g c =
    let placed = rw c.in-Some.is at c.in_ok-other.ensures.placed in
    omega (arith, placed.0, placed.1, c.items_end_from-at-in-Some.ensures.within.0)

pub returns : goal.returns
returns g c out h =
    let text = c.args.text.now in
    let (more, before) = c.loop-other.invariant.read out h in
    let end : c.loop-other.at ≡ length text = (rw c.in_default.is at c.in_ok-other.ensures.next) (out ++ more) before in
    (more, subst (λ t. HasCanonicalIn g.L.Language.has_front c.args.model t (out ++ more)) (take_all c.loop-other.at text (omega (arith, end))) before)
