use Rattle.std.proofs.Common.{arith, subst}
use Rattle.std.proofs.lemmas.Option.{slice_get_within}
use Rattle.pf_values.specs.meaning.Items.{types}
use Rattle.pf_posix.specs.Types.{widened}
use Rattle.pf_compare.specs.Owned.{type_of_owned}
use Rattle.pf_whole.specs.Comparisons.{IsStretchDifference}
use Rattle.pf_whole.proofs.CountLemmas.{stretch_args_few}
use Rattle.pf_whole.proofs.ProbeLoops.{alike_found, kept_found, none_found}
use Rattle.pf_whole.proofs.TraceLemmas.{length_map}
use Rattle.pf_whole.proofs.verdicts.probe_stretches.Goals as goal

pub returns-in-Nowhere : goal.returns-in-Nowhere
returns-in-Nowhere c = λ xs ys h g.
    let is = subst (IsStretchDifference c.args.model c.args.first.now c.args.second.now) c.in-Nowhere.is c.in_ok-compare_stretches.ensures in
    alike_found c.args.model xs ys c.args.index c.args.found (is xs ys h g)

pub unreachable-requires : goal.unreachable-requires
unreachable-requires c =
    let r = c.requires.types in
    let is = subst (IsStretchDifference c.args.model c.args.first.now c.args.second.now) c.in-Types.is c.in_ok-compare_stretches.ensures in
    is r.0 r.1 r.2 r.3

pub returns-in-Neutral : goal.returns-in-Neutral
returns-in-Neutral c = subst (IsStretchDifference c.args.model c.args.first.now c.args.second.now) c.in-Neutral.is c.in_ok-compare_stretches.ensures

pub returns-in-Some : goal.returns-in-Some
returns-in-Some c = λ xs ys h g.
    let is = subst (IsStretchDifference c.args.model c.args.first.now c.args.second.now) c.in-Probe.is c.in_ok-compare_stretches.ensures in
    kept_found c.args.model xs ys c.args.index c.args.found _ c.in-Some.is (is xs ys h g).0

pub overflow_add-result : goal.overflow_add-result
overflow_add-result c =
    let r = c.requires.types in
    let is = subst (IsStretchDifference c.args.model c.args.first.now c.args.second.now) c.in-Probe.is c.in_ok-compare_stretches.ensures in
    let probe = (is r.0 r.1 r.2 r.3).1 in
    omega (
      arith,
      c.requires.few,
      slice_get_within (types c.args.model r.0) c.in-Probe.probe.index (type_of_owned c.in-Probe.probe.argument) probe.type_is,
      length_map widened (types c.args.model r.0),
      stretch_args_few c.args.model c.args.first.now r.0 r.2.reads,
    )

pub returns-in-None : goal.returns-in-None
returns-in-None c = λ xs ys h g.
    let is = subst (IsStretchDifference c.args.model c.args.first.now c.args.second.now) c.in-Probe.is c.in_ok-compare_stretches.ensures in
    let both = is xs ys h g in
    none_found c.args.model xs ys c.args.index c.args.found c.in-Probe.probe c.in-None.is both.0 both.1
