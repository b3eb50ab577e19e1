-- What is answered about two formats, in one data model and in several. This project's own.
use Rattle.std.specs.Prelude.{◌≡◌, List, [], ◌∷◌, ◌++◌}
use Rattle.pf_values.specs.declared.models.Model.{Model}
use Rattle.pf_values.specs.meaning.Text.{Text}
use Rattle.pf_posix.specs.Laws.{ComparesArgumentTypes, ComparesBeginning}
use Rattle.fmtcanon.specs.ArgumentLines.{IsFitAnswer}
use Rattle.fmtcanon.specs.Comparisons.{IsAlikeAnswer, IsComparisonAnswer}
use Rattle.fmtcanon.specs.Lines.{line}
use Rattle.fmtcanon.specs.Models.{asked_models, model_name}
use Rattle.fmtcanon.specs.declared.answer.Ending.{Ending}
use Rattle.fmtcanon.specs.declared.answer.Ending.TheVariants as endings
use Rattle.fmtcanon.specs.declared.models.Models.{Models}
use Rattle.fmtcanon.specs.declared.models.Models.TheVariants.{All, Both, One}
use Rattle.fmtcanon.specs.declared.questions.PairQuestion.{PairQuestion}
use Rattle.fmtcanon.specs.declared.questions.PairQuestion.TheVariants.{Fits, FitsFewer, Same, WholeSame}

-- the answer to a question about two formats, in a data model
abbrev pub IsPairAnswer : PairQuestion → Model → Text → Text → Text → Ending → Type 0
IsPairAnswer Fits model first second = IsFitAnswer (ComparesArgumentTypes model first second)
IsPairAnswer FitsFewer model first second = IsFitAnswer (ComparesBeginning model first second)
IsPairAnswer Same model first second = IsComparisonAnswer model first second
IsPairAnswer WholeSame model first second = IsAlikeAnswer model first second

-- two formats are the same if they are in each data model
abbrev pub ending_with : Ending → Ending → Ending
ending_with endings.Same others = others
ending_with endings.Done others = endings.Done
ending_with endings.Different others = endings.Different

-- the answer in each of these data models, below its name
abbrev pub IsAnswerInEach : (Model → Text → Ending → Type 0) → List Model → Text → Ending → Type 0
IsAnswerInEach IsIn [] out ending = (out ≡ []) × (ending ≡ endings.Same)
IsAnswerInEach IsIn (model ∷ models) out ending =
    (lines others : Text) × (ends end : Ending)
    × IsIn model lines ends × IsAnswerInEach IsIn models others end
    × (out ≡ line (model_name model) ++ lines ++ others) × (ending ≡ ending_with ends end)

-- the answer in the data models that are asked for
abbrev pub IsAnswerIn : (Model → Text → Ending → Type 0) → Models → Text → Ending → Type 0
IsAnswerIn IsIn (One model) out ending = IsIn model out ending
IsAnswerIn IsIn Both out ending = IsAnswerInEach IsIn (asked_models Both) out ending
IsAnswerIn IsIn All out ending = IsAnswerInEach IsIn (asked_models All) out ending

-- the answer to a question about two formats, in the data models that are asked for
abbrev pub IsPairAnswerIn : PairQuestion → Models → Text → Text → Text → Ending → Type 0
IsPairAnswerIn question models first second =
    IsAnswerIn (λ model. IsPairAnswer question model first second) models
