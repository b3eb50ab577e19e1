use Rattle.fmtcanon.specs.Answers.{lacks_in}
use Rattle.fmtcanon.proofs.GivenLemmas.{first_refused}
use Rattle.fmtcanon.proofs.answer.refused.Goals as goal

pub returns-in-Some : goal.returns-in-Some
returns-in-Some c = λ gives models second.
    first_refused (lacks_in models) c.args.asked c.args.model c.args.first.now second c.args.bytes.now gives c.in-Some.fault c.fault_in_text.result
    c.in-Some.ensures c.fault_in_text.ensures
