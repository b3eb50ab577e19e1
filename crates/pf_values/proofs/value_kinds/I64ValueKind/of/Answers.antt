use Rattle.std.proofs.Common.{arith, to_z, of_z, w64}
use Rattle.std.proofs.lemmas.Int.{ints}
use Rattle.pf_values.specs.meaning.DataModel.{B64}
use Rattle.pf_values.proofs.ValueKindLemmas.{signed-converted}
use Rattle.pf_values.proofs.value_kinds.I64ValueKind.of.Goals as goal

pub returns : goal.returns
returns c = signed-converted B64 c.args.argument _ c.of.result (to_z w64 (of_z w64 c.cast_signed.result)) (omega (arith, ints)) c.of.ensures
    (omega (arith, ints))
