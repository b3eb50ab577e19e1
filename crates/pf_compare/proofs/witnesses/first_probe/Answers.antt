use Rattle.std.proofs.Common.{◌≡◌, ◌+◌, ◌∙◌, List, Some, ap, arith, length, subst, sym}
use Rattle.std.specs.Prelude.{slice_get}
use Rattle.pf_values.specs.meaning.Items.{Item, types}
use Rattle.pf_values.specs.meaning.DataModel.{arg_type}
use Rattle.pf_text.proofs.Texts.{Reads-unique}
use Rattle.pf_compare.specs.Spans.{AreNextSpans, FindsUnlike}
use Rattle.pf_compare.proofs.ProbeLemmas.{found_once, neutral_alike, none_found, span_types_same, tried_once}
use Rattle.pf_compare.proofs.SpanLemmas.{few_passed}
use Rattle.pf_compare.proofs.VerdictLemmas.{made_probe}
use Rattle.pf_compare.proofs.witnesses.first_probe.Goals as goal

pub next_spans-requires : goal.next_spans-requires
next_spans-requires c =
    let i = c.loop-one.invariant in
    (c.args.first.now, c.args.second.now, c.args.whole.now, c.loop-one.index, c.requires, i.first, i.second)

pub first_candidate-requires-clause-one_type : goal.first_candidate-requires-clause-one_type
first_candidate-requires-clause-one_type c =
    let s = subst (AreNextSpans c.args.model _ _ _ c.requires _ _ _) c.in-Some.is (c.in_ok-one.ensures _ _ _ _ c.requires c.loop-one.invariant.first c.loop-one.invariant.second) in
    span_types_same c.args.model c.requires.xs c.requires.ys c.args.whole.now c.loop-one.index c.in-Some.one c.in-Some.two s.first_in s.second_in
    c.requires.same_types

pub first_candidate-requires-clause-neutral : goal.first_candidate-requires-clause-neutral
first_candidate-requires-clause-neutral c =
    let s = subst (AreNextSpans c.args.model _ _ _ c.requires _ _ _) c.in-Some.is (c.in_ok-one.ensures _ _ _ _ c.requires c.loop-one.invariant.first c.loop-one.invariant.second) in
    neutral_alike c.args.model c.requires.xs c.requires.ys c.args.whole.now c.loop-one.index c.in-Some.one c.in-Some.two s.first_in s.second_in
    c.requires.same_types c.requires.first_prints c.requires.second_prints

pub first_candidate-requires-clause-first : goal.first_candidate-requires-clause-first
first_candidate-requires-clause-first c =
    let s = subst (AreNextSpans c.args.model _ _ _ c.requires _ _ _) c.in-Some.is (c.in_ok-one.ensures _ _ _ _ c.requires c.loop-one.invariant.first c.loop-one.invariant.second) in
    s.first_in.inside

pub first_candidate-requires-clause-second : goal.first_candidate-requires-clause-second
first_candidate-requires-clause-second c =
    let s = subst (AreNextSpans c.args.model _ _ _ c.requires _ _ _) c.in-Some.is (c.in_ok-one.ensures _ _ _ _ c.requires c.loop-one.invariant.first c.loop-one.invariant.second) in
    s.second_in.inside

pub returns-in-Some-2 : goal.returns-in-Some-2
returns-in-Some-2 c = λ xs ys a b.
    let s = subst (AreNextSpans c.args.model _ _ _ c.requires _ _ _) c.in-Some.is (c.in_ok-one.ensures _ _ _ _ c.requires c.loop-one.invariant.first c.loop-one.invariant.second) in
    let found = subst (FindsUnlike c.args.model c.args.whole.now c.in-Some.one c.in-Some.two (arg_type c.args.model c.in-Some.one.directive)) c.in-Some-2.is
    c.in_ok-candidate_index.ensures in
    let same = Reads-unique c.args.first.now c.requires.xs xs c.requires.accepted_first.reads a in
    let first = found_once c.args.model c.requires.xs c.requires.ys xs ys same
    (Reads-unique c.args.second.now c.requires.ys ys c.requires.accepted_second.reads b) c.args.whole.now c.loop-one.index c.in-Some.one c.in-Some.two
    s.first_in s.second_in c.requires.same_types (c.loop-one.invariant.tried xs ys a b) c.in-Some-2.candidate_index found in
    let type_at = subst (λ (l : List Item). slice_get (types c.args.model l) c.loop-one.index ≡ Some (arg_type c.args.model c.in-Some.one.directive)) same
    s.first_in.type_is in
    let probe = c.probe_of.ensures in
    made_probe c.args.model xs ys c.loop-one.index c.in-Some-2.candidate_index c.arg_type-wanted.result first.0 first.1
    (type_at ∙ ap Some (sym c.arg_type-wanted.ensures)) c.probe_of.result probe.index probe.candidate probe.arg_type probe.renderings

pub overflow_add-index : goal.overflow_add-index
overflow_add-index c =
    let s = subst (AreNextSpans c.args.model _ _ _ c.requires _ _ _) c.in-Some.is (c.in_ok-one.ensures _ _ _ _ c.requires c.loop-one.invariant.first c.loop-one.invariant.second) in
    omega (arith, few_passed c.args.model _ c.args.first.now (c.loop-one.index + 1) s.first_passed, c.requires.accepted_first.limit)

pub loop-one-smaller : goal.loop-one-smaller
loop-one-smaller c =
    let s = subst (AreNextSpans c.args.model _ _ _ c.requires _ _ _) c.in-Some.is (c.in_ok-one.ensures _ _ _ _ c.requires c.loop-one.invariant.first c.loop-one.invariant.second) in
    omega (arith, few_passed c.args.model _ c.args.first.now (c.loop-one.index + 1) s.first_passed)

pub loop-one-preserved : goal.loop-one-preserved
loop-one-preserved c =
    let s = subst (AreNextSpans c.args.model _ _ _ c.requires _ _ _) c.in-Some.is (c.in_ok-one.ensures _ _ _ _ c.requires c.loop-one.invariant.first c.loop-one.invariant.second) in
    let found = subst (FindsUnlike c.args.model c.args.whole.now c.in-Some.one c.in-Some.two (arg_type c.args.model c.in-Some.one.directive)) c.in-None.is
    c.in_ok-candidate_index.ensures in record {
      first = s.first_passed;
      second = s.second_passed;
      tried = λ xs ys a b. tried_once c.args.model c.requires.xs c.requires.ys xs ys
          (Reads-unique c.args.first.now c.requires.xs xs c.requires.accepted_first.reads a)
          (Reads-unique c.args.second.now c.requires.ys ys c.requires.accepted_second.reads b) c.args.whole.now c.loop-one.index c.in-Some.one c.in-Some.two
          s.first_in s.second_in c.requires.same_types (c.loop-one.invariant.tried xs ys a b) found;
    }

pub returns : goal.returns
returns c = λ xs ys a b.
    let all = subst (AreNextSpans c.args.model _ _ _ c.requires _ _ _) c.in_default.is (c.in_ok-one.ensures _ _ _ _ c.requires c.loop-one.invariant.first c.loop-one.invariant.second) in
    none_found c.args.model xs ys c.loop-one.index (subst (λ (l : List Item). c.loop-one.index ≡ length (types c.args.model l))
    (Reads-unique c.args.first.now c.requires.xs xs c.requires.accepted_first.reads a) all) (c.loop-one.invariant.tried xs ys a b)
