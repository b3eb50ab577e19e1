-- What a run leaves, by its outcome. This project's own.
use Rattle.std.specs.Prelude.{◌≡◌, ◌⊎◌, ℕ, List, Result, Ok, Err, true, ⊤}
use Rattle.pf_values.specs.declared.counted.Counted.{Counted}
use Rattle.pf_values.specs.Counting.{Known, WritesAll, WritesFirst, is_flushed}
use Rattle.pf_values.specs.meaning.Text.{Text}
use Rattle.fmtcanon.specs.Answers.{IsAnswer, IsQuestionFault}
use Rattle.fmtcanon.specs.Streams.{CopyEnds}
use Rattle.fmtcanon.specs.Records.{AllReplied, RecordsEnd}
use Rattle.fmtcanon.specs.Outcomes.{outcome_of}
use Rattle.fmtcanon.specs.Tasks.{Asks, IsNoTaskOf}
use Rattle.fmtcanon.specs.declared.answer.Ending.{Ending}
use Rattle.fmtcanon.specs.declared.outcome.Outcome.{Outcome}
use Rattle.fmtcanon.specs.declared.outcome.Outcome.TheVariants.{Memory, Misplaced, Missing, Usage, Write}
use Rattle.fmtcanon.specs.declared.task.NoTask.{NoTask}
use Rattle.fmtcanon.specs.declared.task.NoTask.TheVariants as reasons
use Rattle.fmtcanon.specs.declared.questions.Question.{Question}
use Rattle.fmtcanon.specs.declared.task.Task.{Task}
use Rattle.fmtcanon.specs.declared.task.Task.TheVariants.{Answer, Records, Stream}

module _ {W : Type 0} (contents : W → Known) (old new : Counted W) where
  -- all bytes went out and were flushed, and the run ends so; or the first of them and a call
  -- failed
  abbrev pub WritingEnds : Text → Ending → Outcome → Type 0
  WritingEnds bytes ending outcome =
      ((outcome ≡ outcome_of ending) × WritesAll contents old new bytes × (is_flushed new ≡ true))
      ⊎ ((count : ℕ) × (outcome ≡ Write count) × WritesFirst contents old new bytes count)

module _ {W : Type 0} (contents : W → Known) (old new : Counted W) where
  -- All of an answer went out, and then it was flushed.
  pub record AnswersAll (question : Question) (ending : Ending) : Type 0 where
    pub out : Text
    pub answer : IsAnswer question out ending
    pub writes : WritesAll contents old new out
    pub flushed : is_flushed new ≡ true

  -- Just the first bytes of an answer went out, and one call failed.
  pub record AnswersFirst (question : Question) (count : ℕ) : Type 0 where
    pub out : Text
    pub ending : Ending
    pub answer : IsAnswer question out ending
    pub writes : WritesFirst contents old new out count

  -- There is no answer, and the writer was not called.
  abbrev pub AnswersNothing : Question → Outcome → Type 0
  AnswersNothing question outcome = IsQuestionFault question outcome × (new ≡ old)

  -- what the run of a question leaves
  abbrev pub AnswerEnds : Question → Outcome → Type 0
  AnswerEnds question outcome =
      ((ending : Ending) × (outcome ≡ outcome_of ending) × AnswersAll question ending)
      ⊎ AnswersNothing question outcome
      ⊎ ((count : ℕ) × (outcome ≡ Write count) × AnswersFirst question count)

-- neither the reader nor the writer was called
abbrev pub CallsNeither : {R W : Type 0} → Counted R → Counted R → Counted W → Counted W → Type 0
CallsNeither reader left old new = (new ≡ old) × (left ≡ reader)

-- the words ask for this task, or they have none for this reason
abbrev pub AsksFor : List Text → Result Task NoTask → Type 0
AsksFor words (Ok task) = Asks words task
AsksFor words (Err reason) = IsNoTaskOf words reason

module _ {R W : Type 0} (remaining : R → Known) (contents : W → Known)
    (reader left : Counted R) (old new : Counted W) where
  -- When a run may read: over records once all that was handed out has its replies, for `stream`
  -- at any time, and for a question never.
  abbrev pub MayRead : Task → Type 0
  MayRead (Answer question) = ⊥
  MayRead (Records asked) = AllReplied asked remaining contents reader left old new
  MayRead (Stream model) = ⊤

  -- What the run of a task leaves. A question leaves the reader as it was. Out of memory, it writes
  -- nothing, except replies to the first records if the formats come as records.
  abbrev pub TaskEnds : Task → Outcome → Type 0
  TaskEnds (Answer question) outcome =
      AnswerEnds contents old new question outcome × (left ≡ reader)
  TaskEnds (Records asked) outcome =
      RecordsEnd asked remaining contents reader left old new outcome
  TaskEnds (Stream model) outcome =
      CopyEnds model remaining contents reader left old new outcome

  -- Without a task the outcome is the reason, as it was found, and neither device is called.
  abbrev pub NoTaskEnds : NoTask → Outcome → Type 0
  NoTaskEnds (reasons.Usage text) outcome =
      (outcome ≡ Usage text) × CallsNeither reader left old new
  NoTaskEnds reasons.Missing outcome = (outcome ≡ Missing) × CallsNeither reader left old new
  NoTaskEnds reasons.Misplaced outcome = (outcome ≡ Misplaced) × CallsNeither reader left old new
  NoTaskEnds reasons.Memory outcome = (outcome ≡ Memory) × CallsNeither reader left old new

  -- what the run of a task leaves, or of none
  abbrev pub FoundEnds : Result Task NoTask → Outcome → Type 0
  FoundEnds (Ok task) outcome = TaskEnds task outcome
  FoundEnds (Err reason) outcome = NoTaskEnds reason outcome

  -- what a run of the program leaves
  abbrev pub ProgramEnds : List Text → Outcome → Type 0
  ProgramEnds words outcome =
      (found : Result Task NoTask) × AsksFor words found × FoundEnds found outcome
