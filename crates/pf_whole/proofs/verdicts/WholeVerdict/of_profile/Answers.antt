use Rattle.std.proofs.Common.{subst, sym}
use Rattle.pf_values.specs.meaning.Items.{types}
use Rattle.pf_compare.specs.Answers.{IsDifferenceOf}
use Rattle.pf_compare.specs.Witnesses.{AreArgumentsOf, AreNeutral}
use Rattle.pf_compare.specs.declared.comparisons.Difference.{Difference}
use Rattle.pf_compare.proofs.VerdictLemmas.{probe_within}
use Rattle.pf_compare.proofs.WitnessLemmas.{converted_some}
use Rattle.pf_whole.specs.Comparisons.{ShowDifference}
use Rattle.pf_whole.proofs.verdicts.WholeVerdict.of_profile.Goals as goal

pub returns-in_ok-neutrals_of-in-Neutral : goal.returns-in_ok-neutrals_of-in-Neutral
returns-in_ok-neutrals_of-in-Neutral c = λ items reads.
    let k = converted_some (AreNeutral (types c.args.model items)) c.in_ok-neutrals_of-in-Neutral.field-0.items
    (c.in_ok-neutrals_of-in-Neutral.ensures items reads) in
    (k.0, subst (λ (d : Difference). ShowDifference c.args.model items d k.0) (sym c.in-Neutral.is) k.1, k.2)

pub arguments_of-requires : goal.arguments_of-requires
arguments_of-requires c = probe_within c.args.model c.args.text.now c.requires.0 c.in-Probe.probe
    (subst (IsDifferenceOf c.args.model c.args.text.now c.requires.0) c.in-Probe.is c.requires.1)

pub returns-in_ok-arguments_of-in-Probe : goal.returns-in_ok-arguments_of-in-Probe
returns-in_ok-arguments_of-in-Probe c = λ items reads.
    let k = converted_some (AreArgumentsOf (types c.args.model items) c.in-Probe.probe) c.in_ok-arguments_of-in-Probe.field-0.items
    (c.in_ok-arguments_of-in-Probe.ensures items reads) in
    (k.0, subst (λ (d : Difference). ShowDifference c.args.model items d k.0) (sym c.in-Probe.is) k.1, k.2)
