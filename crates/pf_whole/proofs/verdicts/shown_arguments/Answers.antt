use Rattle.std.proofs.Common.{Some, arith, subst, sym}
use Rattle.std.specs.Prelude.{Option, slice_set}
use Rattle.pf_compare.specs.declared.witnesses.Probe.{Probe}
use Rattle.pf_whole.specs.Comparisons.{IsTypedProbe}
use Rattle.pf_whole.proofs.ShownLoops.{IsShownFor, probe_inside, probe_set}
use Rattle.pf_whole.proofs.verdicts.shown_arguments.Goals as goal

pub index_mut-requires : goal.index_mut-requires
index_mut-requires c =
    let a = c.requires.accepted in
    let shown = c.in_ok-shown.shown in
    omega (
      arith,
      probe_inside c.args.model a.stretches shown.items c.in-Some.probe (c.in_ok-shown.ensures a.stretches a.reads)
          (subst (IsTypedProbe c.args.model a.stretches) c.in-Some.is (c.requires.typed a.stretches a.reads)),
      shown.ok.0,
    )

pub returns-in-Some : goal.returns-in-Some
returns-in-Some c = λ a reads.
    let shown = c.in_ok-shown.shown.items in
    let probe = c.in-Some.probe in
    subst (λ (found : Option Probe). IsShownFor c.args.model a found (slice_set shown probe.index (Some probe.argument))) (sym c.in-Some.is)
    (probe_set c.args.model a shown probe (c.in_ok-shown.ensures a reads)
    (subst (IsTypedProbe c.args.model a) c.in-Some.is (c.requires.typed a reads)))
