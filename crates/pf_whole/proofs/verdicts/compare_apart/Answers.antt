use Rattle.std.proofs.Common.{subst, sym}
use Rattle.std.proofs.lemmas.Result.{err_from_is_err_and}
use Rattle.pf_posix.specs.Laws.{ComparesArgumentTypes}
use Rattle.pf_whole.specs.Comparisons.{ShowsDifference}
use Rattle.pf_whole.proofs.VerdictLemmas.{calls_verdict, fit_anyway, shape_of, shown_verdict, types_verdict}
use Rattle.pf_whole.proofs.verdicts.compare_apart.Goals as goal

pub returns-in-Ok-Some : goal.returns-in-Ok-Some
returns-in-Ok-Some c =
    let found = subst (ComparesArgumentTypes c.args.model c.args.first.now c.args.second.now) c.in-Ok-Some.field-0-is c.in-Ok-Some.ensures in
    record {
      is = types_verdict c.args.model c.args.first.now c.args.second.now c.in-Ok-Some.index c.requires.accepted_first c.requires.accepted_second
          c.requires.apart found;
      typed = tt;
    }

pub unreachable-requires : goal.unreachable-requires
unreachable-requires c = fit_anyway c.args.model c.args.first.now c.args.second.now c.in-Err.field-0.0 c.in-Err.field-0.1 c.requires.accepted_first
    c.requires.accepted_second c.in-Err.ensures

pub returns-in-Some : goal.returns-in-Some
returns-in-Some c =
    let types = subst (ComparesArgumentTypes c.args.model c.args.first.now c.args.second.now) c.in-Ok-None.field-0-is c.in-Ok-None.ensures in
    record {
      is = calls_verdict c.args.model c.args.first.now c.args.second.now c.in-Some.index c.requires.accepted_first c.requires.accepted_second c.requires.apart
          types c.in-Some.ensures;
      typed = tt;
    }

pub first_probe-requires-clause-shape : goal.first_probe-requires-clause-shape
first_probe-requires-clause-shape c = λ a b k l.
    let types = subst (ComparesArgumentTypes c.args.model c.args.first.now c.args.second.now) c.in-Ok-None.field-0-is c.in-Ok-None.ensures in
    shape_of c.args.model c.args.first.now c.args.second.now a b c.requires.accepted_first c.requires.accepted_second types c.in_default.ensures k l

pub returns-in_err-probe : goal.returns-in_err-probe
returns-in_err-probe c =
    let types = subst (ComparesArgumentTypes c.args.model c.args.first.now c.args.second.now) c.in-Ok-None.field-0-is c.in-Ok-None.ensures in
    let p = err_from_is_err_and c.from_residual.result c.from_residual.ensures.1 in
    rw (p.1, p.2) (
      c.requires.accepted_first,
      c.requires.accepted_second,
      c.requires.apart,
      λ a b k l. shape_of c.args.model c.args.first.now c.args.second.now a b c.requires.accepted_first c.requires.accepted_second types c.in_default.ensures k
          l,
    )

pub shown_arguments-requires-clause-typed : goal.shown_arguments-requires-clause-typed
shown_arguments-requires-clause-typed c = λ a k.
    let b = c.requires.accepted_second in
    (c.in_ok-probe.ensures a b.stretches k b.reads).1

pub returns-in_err-shown_arguments : goal.returns-in_err-shown_arguments
returns-in_err-shown_arguments c =
    let types = subst (ComparesArgumentTypes c.args.model c.args.first.now c.args.second.now) c.in-Ok-None.field-0-is c.in-Ok-None.ensures in
    let p = err_from_is_err_and c.from_residual-in_err-shown_arguments.result c.from_residual-in_err-shown_arguments.ensures.1 in
    rw (p.1, p.2) (
      c.requires.accepted_first,
      c.requires.accepted_second,
      c.requires.apart,
      λ a b k l. shape_of c.args.model c.args.first.now c.args.second.now a b c.requires.accepted_first c.requires.accepted_second types c.in_default.ensures k
          l,
    )

pub returns : goal.returns
returns c =
    let types = subst (ComparesArgumentTypes c.args.model c.args.first.now c.args.second.now) c.in-Ok-None.field-0-is c.in-Ok-None.ensures in
    record {
      is = shown_verdict c.args.model c.args.first.now c.args.second.now _ c.requires.accepted_first c.requires.accepted_second c.requires.apart types
          c.in_default.ensures
          (λ x y k l. subst (ShowsDifference c.args.model x y) (sym (c.in_ok-shown_arguments.ensures x k).0) (c.in_ok-probe.ensures x y k l).0);
      typed = λ a k. (c.in_ok-shown_arguments.ensures a k).1;
    }
