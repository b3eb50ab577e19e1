use Rattle.fmtcanon.specs.Lines.{output_bytes}
use Rattle.fmtcanon.specs.PairAnswers.{IsPairAnswer}
use Rattle.fmtcanon.proofs.PairLemmas.{one_model}
use Rattle.fmtcanon.proofs.pairs.pair_answer.Goals as goal

pub returns-in-One : goal.returns-in-One
returns-in-One c =
    rw (c.in-One.is) (one_model (λ answer. IsPairAnswer c.args.question c.in-One.model c.args.first.now c.args.second.now
    (output_bytes answer.output) answer.ending)
    c.args.question c.in-One.model c.args.first.now c.args.second.now c.pair_answer_in.result c.pair_answer_in.ensures)
