use Rattle.std.proofs.Common.{arith}
use Rattle.pf_values.specs.meaning.Items.{types}
use Rattle.pf_compare.proofs.WitnessLemmas.{converted_long}
use Rattle.pf_compare.proofs.witnesses.arguments_of.Goals as goal

pub with_candidate-requires : goal.with_candidate-requires
with_candidate-requires g c =
    let r = c.requires in
    omega (
      arith,
      r.2,
      converted_long g.T.From.from_gives (types c.args.model r.0) c.in_ok-neutrals_of.field-0.items (c.in_ok-neutrals_of.ensures r.0 r.1.reads),
    )
