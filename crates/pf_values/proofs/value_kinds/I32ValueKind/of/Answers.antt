use Rattle.std.proofs.Common.{arith, to_z, of_z, w32}
use Rattle.std.proofs.lemmas.Int.{ints}
use Rattle.pf_values.specs.meaning.DataModel.{B32}
use Rattle.pf_values.proofs.ValueKindLemmas.{signed-converted}
use Rattle.pf_values.proofs.value_kinds.I32ValueKind.of.Goals as goal

pub returns : goal.returns
returns c = signed-converted B32 c.args.argument _ c.of.result (to_z w32 (of_z w32 c.cast_signed.result)) (omega (arith, ints)) c.of.ensures
    (omega (arith, ints))
