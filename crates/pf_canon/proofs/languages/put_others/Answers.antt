use Rattle.std.proofs.Common.{◌≡◌, ◌≤◌, ◌++◌, [], ap, arith, drop, length, subst, sym, take, ◌∙◌}
use Rattle.std.proofs.lemmas.List.{append-nil, append_assoc, length-take, take_all}
use Rattle.std.proofs.lemmas.Result.{err_from_is_err_and}
use Rattle.pf_values.specs.declared.limits.TheConstants.{MAX_TEXT_LEN}
use Rattle.pf_text.specs.FoundDirectives.{BeginsNoItem}
use Rattle.pf_canon.specs.ChangedDirectives.{between}
use Rattle.pf_canon.specs.Languages.{CompletesIn, HasCanonicalIn}
use Rattle.pf_canon.proofs.ItemLemmas.{front_of_walk, next_run, walk_between}
use Rattle.pf_canon.proofs.LanguageLemmas.{complete_in, item_in, run_verbatim}
use Rattle.pf_canon.proofs.languages.put_others.Goals as goal

pub loop-other-init : goal.loop-other-init
loop-other-init g c = record {
  within = c.requires.within;
  none = c.requires.none;
  put = λ front h. (
    [],
    g.met.S.Sink.laws.none c.args.sink.now,
    subst (HasCanonicalIn g.L.Language.has_front c.args.model (take c.args.first c.args.text.now)) (sym (append-nil front)) h,
  );
}

pub other_at-requires-clause-within : goal.other_at-requires-clause-within
other_at-requires-clause-within g c = (front_of_walk c.args.text.now c.args.walk c.requires.over c.loop-other.at c.loop-other.invariant.within).1

pub other_at-requires-clause-front : goal.other_at-requires-clause-front
other_at-requires-clause-front g c =
    let (front, h) = c.requires.front in
    (_, (c.loop-other.invariant.put front h).2)

pub other_at-requires-clause-none : goal.other_at-requires-clause-none
other_at-requires-clause-none g c = subst (λ t. BeginsNoItem (drop c.loop-other.at t)) c.requires.over.text_is c.loop-other.invariant.none

pub returns-in_err-other : goal.returns-in_err-other
returns-in_err-other g c front h =
    let p = err_from_is_err_and c.from_residual.result c.from_residual.ensures.1 in
    let (more, put, before) = c.loop-other.invariant.put front h in
    rw (p.1, p.2) (c.in_err-other.ensures.next (front ++ more) before)

pub run_end-requires-clause-within : goal.run_end-requires-clause-within
run_end-requires-clause-within g c =
    let placed = rw c.in-Some.is at c.in_ok-other.ensures.placed in
    subst (λ t. c.in-Some.other.stop ≤ length t) (sym c.requires.over.text_is)
    (omega (arith, placed.1, placed.2, length-take MAX_TEXT_LEN c.args.text.now))

pub put_stretch-at-requires-clause-verbatim : goal.put_stretch-at-requires-clause-verbatim
put_stretch-at-requires-clause-verbatim g c =
    run_verbatim g.L.Language.has_front c.args.model g.L.Passed.passes (g.met.L.Language.has_passed c.args.model)
    (between c.in-Some.other.stop c.run_end.result c.args.walk.text.now) c.run_end.ensures.passed

pub put_stretch-at-requires-clause-next : goal.put_stretch-at-requires-clause-next
put_stretch-at-requires-clause-next g c = next_run g.L.Passed.leaves c.args.walk.text.now c.run_end.result c.run_end.ensures.next

pub loop-other-preserved : goal.loop-other-preserved
loop-other-preserved g c =
    let text = c.args.text.now in
    let other = c.in-Some.other in
    let end = c.put_stretch-at in
    let (own, given, completes) = end.ensures.put in
    let spelling = other.spelling.items in
    let laws = g.met.S.Sink.laws in
    let has_front = g.L.Language.has_front in
    let model = c.args.model in
    let placed = rw c.in-Some.is at c.in_ok-other.ensures.placed in
    let low : other.stop ≤ end.result = omega (arith, c.run_end.ensures.within.0, end.ensures.within.0) in
    let place = front_of_walk text c.args.walk c.requires.over end.result end.ensures.within.1 in
    let same = walk_between text c.args.walk c.requires.over other.stop end.result low end.ensures.within.1 in
    record {
      within = end.ensures.within.1;
      none = end.ensures.stopped;
      put = λ front h.
          let (more, put, before) = c.loop-other.invariant.put front h in
          let next = rw c.in-Some.is at c.in_ok-other.ensures.next in
          let to = item_in has_front model text c.loop-other.at other.stop (front ++ more) spelling before (next (front ++ more) before) placed.0 placed.1
          placed.3 in
          let whole : (((front ++ more) ++ spelling) ++ own) ≡ front ++ ((more ++ spelling) ++ own) =
          ap (λ t. t ++ own) (append_assoc front more spelling) ∙ append_assoc front (more ++ spelling) own in (
            (more ++ spelling) ++ own,
            laws.both c.args.sink.now c.put.new.self end.new.sink (more ++ spelling) own
                (laws.both c.args.sink.now c.loop-other.sink c.put.new.self more spelling put (rw c.deref.ensures.0 at c.put.ensures)) given,
            subst (HasCanonicalIn has_front model (take end.result text)) whole
                (complete_in has_front model text other.stop end.result low place.2 ((front ++ more) ++ spelling) own to
                (subst (λ t. CompletesIn has_front model t own) same completes)),
          );
    }

pub loop-other-smaller : goal.loop-other-smaller
loop-other-smaller g c =
    let placed = rw c.in-Some.is at c.in_ok-other.ensures.placed in
    omega (arith, placed.0, placed.1, c.run_end.ensures.within.0, c.put_stretch-at.ensures.within.0)

pub returns : goal.returns
returns g c front h =
    let text = c.args.text.now in
    let (more, put, before) = c.loop-other.invariant.put front h in
    let end : c.loop-other.at ≡ length text = (rw c.in_default.is at c.in_ok-other.ensures.next) (front ++ more) before in
    (more, put, subst (λ t. HasCanonicalIn g.L.Language.has_front c.args.model t (front ++ more)) (take_all c.loop-other.at text (omega (arith, end))) before)
