use Rattle.std.proofs.Common.{subst}
use Rattle.pf_render.specs.Rendering.{FaultForRenderVec}
use Rattle.pf_compare.proofs.ConfirmationLemmas.{wrong_count, wrong_type}
use Rattle.pf_compare.proofs.comparisons.rendering_of.Goals as goal

pub returns-in-Err-WrongCount-clause-told : goal.returns-in-Err-WrongCount-clause-told
returns-in-Err-WrongCount-clause-told c = λ out r. wrong_count c.args.model c.args.text.now c.args.args.now c.in-Err-WrongCount.field-0-0
    c.in-Err-WrongCount.field-0-1 out (subst (FaultForRenderVec c.args.model c.args.text.now c.args.args.now) c.in-Err-WrongCount.field-0-is
    c.in-Err-WrongCount.ensures) r

pub returns-in-Err-WrongType-clause-told : goal.returns-in-Err-WrongType-clause-told
returns-in-Err-WrongType-clause-told c = λ out r. wrong_type c.args.model c.args.text.now c.args.args.now c.in-Err-WrongType.field-0-0 out
    (subst (FaultForRenderVec c.args.model c.args.text.now c.args.args.now) c.in-Err-WrongType.field-0-is c.in-Err-WrongType.ensures) r
