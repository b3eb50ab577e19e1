-- What the words ask for.
use Rattle.std.proofs.Common.{◌≡◌, List, Result, Ok, Err, IfErr, IfOk, subst}
use Rattle.pf_values.specs.meaning.Text.{Text}
use Rattle.fmtcanon.specs.Runs.{AsksFor}
use Rattle.fmtcanon.specs.Tasks.{Asks, IsNoTaskOf}
use Rattle.fmtcanon.specs.declared.task.NoTask.{NoTask}
use Rattle.fmtcanon.specs.declared.task.Task.{Task}

-- the words ask for what was found
pub asks_for : (words : List Text) (found : Result Task NoTask) → IfOk found (Asks words) → IfErr found (IsNoTaskOf words) → AsksFor words found
asks_for words (Ok task) asks none = asks
asks_for words (Err reason) asks none = none

-- they ask for the task that was found
pub asks_of : (words : List Text) (found : Result Task NoTask) (task : Task) → IfOk found (Asks words) → found ≡ Ok task → Asks words task
asks_of words found task asks e = subst (λ r. IfOk r (Asks words)) e asks
