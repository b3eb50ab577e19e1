use Rattle.std.proofs.Common.{subst}
use Rattle.pf_compare.specs.Answers.{FindsProbe}
use Rattle.pf_compare.specs.declared.comparisons.Difference.TheVariants.{Neutral, Probe}
use Rattle.pf_compare.proofs.VerdictLemmas.{always_found, apart_verdict, neutral_same, not_equivalent, types_alike, when_none, when_some}
use Rattle.pf_compare.proofs.comparisons.compare_bytes.Goals as goal

pub returns-in_default : goal.returns-in_default
returns-in_default c =
    let r = c.requires.types in
    let a = r.first.accepted in
    let b = r.second.accepted in
    apart_verdict c.args.model c.args.first.now c.args.second.now r.first.items r.second.items a b
    (types_alike c.args.model c.args.first.now c.args.second.now r.first.items r.second.items r a.reads b.reads)
    (not_equivalent c.args.model c.args.first.now c.args.second.now c.requires.apart) Neutral
    (when_none _ _ c.in_ok-whole.field-0 c.in_default.is c.in_ok-whole.ensures r.first.items r.second.items a.reads b.reads)

pub unreachable-requires : goal.unreachable-requires
unreachable-requires c =
    let r = c.requires.types in
    let a = r.first.accepted in
    let b = r.second.accepted in
    let one = when_some _ _ c.in_ok-whole.field-0 c.in-Some.whole c.in-Some.is c.in_ok-whole.ensures in
    always_found c.args.model c.args.first.now c.args.second.now r.first.items r.second.items a b
    (types_alike c.args.model c.args.first.now c.args.second.now r.first.items r.second.items r a.reads b.reads) c.requires.apart
    (neutral_same c.args.model c.args.first.now c.args.second.now c.in-Some.whole.items one r.first.items r.second.items a.reads b.reads)
    (subst (FindsProbe c.args.model r.first.items r.second.items) c.in-None.is (c.in_ok-probe.ensures r.first.items r.second.items a.reads b.reads))

pub returns : goal.returns
returns c =
    let r = c.requires.types in
    let a = r.first.accepted in
    let b = r.second.accepted in
    let one = when_some _ _ c.in_ok-whole.field-0 c.in-Some.whole c.in-Some.is c.in_ok-whole.ensures in
    apart_verdict c.args.model c.args.first.now c.args.second.now r.first.items r.second.items a b
    (types_alike c.args.model c.args.first.now c.args.second.now r.first.items r.second.items r a.reads b.reads)
    (not_equivalent c.args.model c.args.first.now c.args.second.now c.requires.apart) (Probe c.in-Some-2.probe) (
      neutral_same c.args.model c.args.first.now c.args.second.now c.in-Some.whole.items one r.first.items r.second.items a.reads b.reads,
      subst (FindsProbe c.args.model r.first.items r.second.items) c.in-Some-2.is
          (c.in_ok-probe.ensures r.first.items r.second.items a.reads b.reads),
    )
