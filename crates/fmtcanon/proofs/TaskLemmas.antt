-- What a command about formats asks, wherever these come from.
use Rattle.std.proofs.Common.{◌≡◌, ◌≢◌, List, [], Option, None, Some, Result, ap, ap₂, arith, codes, length, subst, sym}
use Rattle.std.specs.Prelude.{IfErr, IfOk}
use Rattle.std.proofs.lemmas.Result.{IfErr-weaker, IfOk-weaker}
use Rattle.clap.specs.Walk.{Row, first_of}
use Rattle.pf_values.specs.meaning.Text.{Text}
use Rattle.fmtcanon.specs.Questions.{IsAsked, formats_of, formats_wanted}
use Rattle.fmtcanon.specs.Tasks.{Asks, IsAskedOf, IsNoTaskOf, IsNoTaskOn, IsQuestion, IsTaskOn, Names, formats_given, formats_in}
use Rattle.fmtcanon.specs.declared.questions.OneQuestion.TheVariants.{Any, Printed}
use Rattle.fmtcanon.specs.declared.questions.Question.{Question}
use Rattle.fmtcanon.specs.declared.questions.Question.TheVariants.{One, Two}
use Rattle.fmtcanon.specs.declared.questions.RecordQuestion.{RecordQuestion}
use Rattle.fmtcanon.specs.declared.questions.RecordQuestion.TheVariants as of_records
use Rattle.fmtcanon.specs.declared.task.NoTask.{NoTask}
use Rattle.fmtcanon.specs.declared.task.NoTask.TheVariants.{Usage, Missing, Misplaced, Memory}
use Rattle.fmtcanon.specs.declared.task.Task.{Task}
use Rattle.fmtcanon.specs.declared.task.Task.TheVariants.{Answer, Records, Stream}

is_question : (command : Text) (rows : List Row) (question : Question) → IsAskedOf command rows question → IsQuestion command rows question
is_question command rows (One (Any question) model format) h = h
is_question command rows (One (Printed given) model format) h = absurd h.3
is_question command rows (Two question models first second) h = h

module _ (command : Text) (rows : List Row) (asked : RecordQuestion) (is : IsAsked command rows asked) where
  asks : (task : Task) → IsTaskOn asked rows task → (words : List Text) → Names words command rows → Asks words task
  asks (Answer question) h words names = (command, rows, names, is_question command rows question (asked, is, h.0, h.1))
  asks (Records other) h words names = (command, rows, names, subst (IsAsked command rows) (sym h.0) is, h.1, h.2)
  asks (Stream model) h words names = absurd h

  lacks : (fault : NoTask) → IsNoTaskOn asked rows fault → (words : List Text) → Names words command rows → IsNoTaskOf words fault
  lacks Missing h words names = (command, rows, names, asked, is, h)
  lacks Misplaced h words names = (command, rows, names, asked, is, h)
  lacks (Usage message) h words names = absurd h
  lacks Memory h words names = absurd h

  -- the task of the command, or why it has none
  pub asks_if : (result : Result Task NoTask) → IfOk result (IsTaskOn asked rows)
      → IfOk result (λ task. (words : List Text) → Names words command rows → Asks words task)
  asks_if result h = IfOk-weaker result _ _ asks h

  pub lacks_if : (result : Result Task NoTask) → IfErr result (IsNoTaskOn asked rows)
      → IfErr result (λ fault. (words : List Text) → Names words command rows → IsNoTaskOf words fault)
  lacks_if result h = IfErr-weaker result _ _ lacks h

-- what formats are there, by the values of F and G
module _ (rows : List Row) where
  pub formats_are : (first second : Option Text) → first ≡ first_of (codes "F") rows → second ≡ first_of (codes "G") rows
      → formats_given first second ≡ formats_in rows
  formats_are first second e f = ap₂ formats_given e f

  pub none_there : None ≡ first_of (codes "F") rows → formats_in rows ≡ []
  none_there e = sym (ap (λ o. formats_given o (first_of (codes "G") rows)) e)

  pub some_there : (first : Text) → Some first ≡ first_of (codes "F") rows → length (formats_in rows) ≢ 0
  some_there first e =
      subst (λ formats. length formats ≢ 0) (ap (λ o. formats_given o (first_of (codes "G") rows)) e)
      (some (first_of (codes "G") rows))
    where
      some : (second : Option Text) → length (formats_of first second) ≢ 0
      some None = λ e. absurd (omega (arith, e))
      some (Some second) = λ e. absurd (omega (arith, e))

pub none_wanted : (asked : RecordQuestion) → 0 ≢ formats_wanted asked
none_wanted (of_records.One notation question model) = λ e. absurd (omega (arith, e))
none_wanted (of_records.Two notation question models) = λ e. absurd (omega (arith, e))
