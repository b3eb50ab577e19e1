use Rattle.std.proofs.Common.{refl}
use Rattle.std.proofs.lemmas.Result.{IfOk-weaker}
use Rattle.fmtcanon.proofs.command.definition.Goals as goal

pub returns : goal.returns
returns c = IfOk-weaker c.definition_with.result _ _ (λ r h. record { one = _; more = _; one_names = refl; more_names = refl; is = h })
    c.definition_with.ensures
