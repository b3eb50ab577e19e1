-- What the words ask for, as a task. This project's own.
use Rattle.std.specs.Prelude.{◌≡◌, ◌≢◌, true, false, List, [], Option, None, Some, codes, length, map, unwrap_or, ⊤}
use Rattle.clap.specs.Faults.{fault_of}
use Rattle.clap.specs.Kinds.{IsAmong}
use Rattle.clap.specs.Simple.{App, subcommand_of}
use Rattle.clap.specs.Walk.{Row, all_of, first_of}
use Rattle.clap.specs.declared.error.kind.ErrorKind.{ErrorKind}
use Rattle.clap.specs.declared.error.kind.ErrorKind.TheVariants as kind
use Rattle.pf_values.specs.meaning.Text.{Text}
use Rattle.fmtcanon.specs.declared.task.NoTask.{NoTask}
use Rattle.fmtcanon.specs.declared.task.NoTask.TheVariants.{Usage, Missing, Misplaced, Memory}
use Rattle.fmtcanon.specs.declared.task.Task.{Task}
use Rattle.fmtcanon.specs.declared.task.Task.TheVariants.{Answer, Records, Stream}
use Rattle.fmtcanon.specs.declared.questions.OneQuestion.TheVariants.{Any, Printed}
use Rattle.fmtcanon.specs.declared.questions.Question.{Question}
use Rattle.fmtcanon.specs.declared.questions.Question.TheVariants.{One, Two}
use Rattle.fmtcanon.specs.declared.questions.RecordQuestion.{RecordQuestion}
use Rattle.fmtcanon.specs.Models.{model_in}
use Rattle.fmtcanon.specs.Options.{is_null, notation_in}
use Rattle.fmtcanon.specs.Questions.{IsAbout, IsAsked, formats_of, formats_wanted}
use Rattle.fmtcanon.specs.Words.{IsCommand, IsTaken}

-- clap finds no fault in the words: they name a command, and have these values for its arguments
pub record Names (words : List Text) (command : Text) (rows : List Row) : Type 0 where
  pub app : App
  pub is_command : IsCommand app
  pub no_fault : fault_of app words ≡ []
  pub named : subcommand_of app words ≡ Some (command, rows)

-- an argument has this value
abbrev pub HasValue : List Row → Text → Text → Type 0
HasValue rows id text = first_of id rows ≡ Some text

-- an argument has these values; there may be none
abbrev pub HasAllValues : List Row → Text → List Text → Type 0
HasAllValues rows id texts = texts ≡ unwrap_or (all_of id rows) []

-- the formats among the words
abbrev pub formats_given : Option Text → Option Text → List Text
formats_given None second = []
formats_given (Some first) second = formats_of first second

abbrev pub formats_in : List Row → List Text
formats_in rows = formats_given (first_of (codes "F") rows) (first_of (codes "G") rows)

-- a command asks it about the formats among the words
abbrev pub IsAskedOf : Text → List Row → Question → Type 0
IsAskedOf command rows question =
    (asked : RecordQuestion) × IsAsked command rows asked × (is_null rows ≡ false)
    × IsAbout question asked (formats_in rows)

-- a command asks a question about the values of its arguments
abbrev pub IsQuestion : Text → List Row → Question → Type 0
IsQuestion command rows (One (Any question) model format) =
    IsAskedOf command rows (One (Any question) model format)
IsQuestion command rows (One (Printed given) model format) =
    (command ≡ codes "format") × (format.notation ≡ notation_in rows) × (model ≡ model_in rows)
    × HasValue rows (codes "F") format.text.now
    × HasAllValues rows (codes "ARG") (map (λ s. s.now) given.items)
IsQuestion command rows (Two question models first second) =
    IsAskedOf command rows (Two question models first second)

-- the words name a command which does that
abbrev pub Asks : List Text → Task → Type 0
Asks words (Answer question) =
    (command : Text) × (rows : List Row) × Names words command rows
    × IsQuestion command rows question
Asks words (Records asked) =
    (command : Text) × (rows : List Row) × Names words command rows
    × IsAsked command rows asked × (is_null rows ≡ true) × (formats_in rows ≡ [])
Asks words (Stream model) =
    (rows : List Row) × Names words (codes "stream") rows × (model ≡ model_in rows)

-- clap finds a fault in the words, which isn't that memory was refused
abbrev pub HasFault : List Text → Type 0
HasFault words =
    (app : App) × IsCommand app × (k : ErrorKind) × (k ≢ kind.OutOfMemory)
    × IsAmong k (fault_of app words)

-- `--null` isn't among the arguments, and not as many formats as the question needs
abbrev pub IsMissing : RecordQuestion → List Row → Type 0
IsMissing asked rows = (is_null rows ≡ false) × (length (formats_in rows) ≢ formats_wanted asked)

-- formats are among the arguments besides `--null`
abbrev pub IsMisplaced : RecordQuestion → List Row → Type 0
IsMisplaced asked rows = (is_null rows ≡ true) × (length (formats_in rows) ≢ 0)

-- the words name a command about formats, and this holds of what it is asked
abbrev pub NameFormats : (RecordQuestion → List Row → Type 0) → List Text → Type 0
NameFormats Holds words =
    (command : Text) × (rows : List Row) × Names words command rows
    × (asked : RecordQuestion) × IsAsked command rows asked × Holds asked rows

-- Why the words have no task. Clap finds a fault in them, and doesn't take them; or a format is missing,
-- or misplaced; or memory was refused, which may happen with any words.
abbrev pub IsNoTaskOf : List Text → NoTask → Type 0
IsNoTaskOf words (Usage message) = (¬ IsTaken words) × HasFault words
IsNoTaskOf words Missing = NameFormats IsMissing words
IsNoTaskOf words Misplaced = NameFormats IsMisplaced words
IsNoTaskOf words Memory = ⊤

-- the task of a command that asks this about formats
abbrev pub IsTaskOn : RecordQuestion → List Row → Task → Type 0
IsTaskOn asked rows (Answer question) =
    (is_null rows ≡ false) × IsAbout question asked (formats_in rows)
IsTaskOn asked rows (Records of_each) =
    (of_each ≡ asked) × (is_null rows ≡ true) × (formats_in rows ≡ [])
IsTaskOn asked rows (Stream model) = ⊥

-- why it has none: a format is missing or misplaced, which is said without an allocation
abbrev pub IsNoTaskOn : RecordQuestion → List Row → NoTask → Type 0
IsNoTaskOn asked rows Missing = IsMissing asked rows
IsNoTaskOn asked rows Misplaced = IsMisplaced asked rows
IsNoTaskOn asked rows _ = ⊥

-- that memory was refused is answered as such, and may be answered for anything else
abbrev pub IsAnsweredBy : ErrorKind → NoTask → Type 0
IsAnsweredBy k (Usage message) = k ≢ kind.OutOfMemory
IsAnsweredBy k Missing = ⊥
IsAnsweredBy k Misplaced = ⊥
IsAnsweredBy k Memory = ⊤
