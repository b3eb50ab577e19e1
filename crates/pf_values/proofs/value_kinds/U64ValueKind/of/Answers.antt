use Rattle.std.proofs.Common.{arith, to_z, of_z}
use Rattle.std.specs.Int.{w128}
use Rattle.std.proofs.lemmas.Int.{ints}
use Rattle.pf_values.specs.meaning.DataModel.{B64}
use Rattle.pf_values.proofs.ValueKindLemmas.{remainder-converted}
use Rattle.pf_values.proofs.value_kinds.U64ValueKind.of.Goals as goal

pub returns : goal.returns
returns c = remainder-converted B64 c.args.argument _ c.rem_euclid.result (to_z w128 (of_z w128 c.rem_euclid.result))
    (omega (arith, ints)) c.rem_euclid.ensures.value (omega (arith, ints))
