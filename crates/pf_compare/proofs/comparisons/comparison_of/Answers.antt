use Rattle.std.proofs.Common.{subst}
use Rattle.pf_values.specs.meaning.Items.{types}
use Rattle.pf_compare.specs.Answers.{IsDifferenceOf}
use Rattle.pf_compare.specs.Witnesses.{AreArgumentsOf, AreNeutral}
use Rattle.pf_compare.proofs.VerdictLemmas.{neutral_compared, nowhere_compared, probe_compared, probe_within, types_compared}
use Rattle.pf_compare.proofs.WitnessLemmas.{converted_same}
use Rattle.pf_compare.proofs.comparisons.comparison_of.Goals as goal

pub returns-in-Nowhere : goal.returns-in-Nowhere
returns-in-Nowhere c = λ u h. nowhere_compared c.args.model c.args.text.now u (subst (IsDifferenceOf c.args.model c.args.text.now u) c.in-Nowhere.is h)

pub returns-in-Types : goal.returns-in-Types
returns-in-Types c = λ u h. types_compared c.args.model c.args.text.now u c.in-Types.index
    (subst (IsDifferenceOf c.args.model c.args.text.now u) c.in-Types.is h)

pub returns-in_ok-neutrals_of-in-Neutral : goal.returns-in_ok-neutrals_of-in-Neutral
returns-in_ok-neutrals_of-in-Neutral c = λ u h.
    let is = subst (IsDifferenceOf c.args.model c.args.text.now u) c.in-Neutral.is h in
    neutral_compared c.args.model c.args.text.now u c.in_ok-neutrals_of-in-Neutral.field-0 is
    (converted_same (AreNeutral (types c.args.model is.first)) c.in_ok-neutrals_of-in-Neutral.field-0.items
    (c.in_ok-neutrals_of-in-Neutral.ensures is.first is.accepted_first.reads))

pub arguments_of-requires : goal.arguments_of-requires
arguments_of-requires c = probe_within c.args.model c.args.text.now c.requires.0 c.in-Probe.probe
    (subst (IsDifferenceOf c.args.model c.args.text.now c.requires.0) c.in-Probe.is c.requires.1)

pub returns-in_ok-arguments_of-in-Probe : goal.returns-in_ok-arguments_of-in-Probe
returns-in_ok-arguments_of-in-Probe c = λ u h.
    let is = subst (IsDifferenceOf c.args.model c.args.text.now u) c.in-Probe.is h in
    probe_compared c.args.model c.args.text.now u c.in_ok-arguments_of-in-Probe.field-0 c.in-Probe.probe is
    (converted_same (AreArgumentsOf (types c.args.model is.first) c.in-Probe.probe) c.in_ok-arguments_of-in-Probe.field-0.items
    (c.in_ok-arguments_of-in-Probe.ensures is.first is.accepted_first.reads))
