use Rattle.fmtcanon.proofs.AnswersOnce.{one_answer}
use Rattle.fmtcanon.proofs.laws.one_answer.Goals as goal

pub returns : goal.returns
returns c = one_answer
