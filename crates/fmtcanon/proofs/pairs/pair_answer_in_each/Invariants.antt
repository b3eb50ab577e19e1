use Rattle.std.proofs.Common.{take}
use Rattle.std.specs.List.{AllByRecursion}
use Rattle.fmtcanon.specs.PairAnswers.{IsAnswerInEach, IsPairAnswer}
use Rattle.fmtcanon.specs.Answers.{AcceptsBoth}
use Rattle.fmtcanon.proofs.pairs.pair_answer_in_each.Given as goal

-- the replies up to here, in data models that accept both formats
abbrev pub invariant-loop-model : goal.invariant-loop-model
invariant-loop-model l =
    IsAnswerInEach (λ model. IsPairAnswer l.question model l.first l.second) (take l.model-index l.models) l.bytes.items l.ending
    × AllByRecursion (λ model. AcceptsBoth l.question model l.first l.second)
    (take l.model-index l.models)
