-- The exit status of each outcome. This project's own.
use Rattle.std.specs.Prelude.{ℕ}
use Rattle.fmtcanon.specs.declared.answer.Ending.{Ending}
use Rattle.fmtcanon.specs.declared.answer.Ending.TheVariants as endings
use Rattle.fmtcanon.specs.declared.outcome.Outcome.{Outcome}
use Rattle.fmtcanon.specs.declared.outcome.Outcome.TheVariants.{Done, Same, Different, Answered, Refused, BadLiteral}
use Rattle.fmtcanon.specs.declared.outcome.Outcome.TheVariants.{Read, Write, Memory}

-- that of a run that writes all of an answer
abbrev pub outcome_of : Ending → Outcome
outcome_of endings.Done = Done
outcome_of endings.Same = Same
outcome_of endings.Different = Different

-- 0 if all was written and nothing differs, 1 if formats differ, 2 if a format is rejected or literals are
-- wrong, 4 if a device failed or memory was refused, and 3 for all other errors; of records that were
-- answered, the highest status of theirs
abbrev pub status_of : Outcome → ℕ
status_of Done = 0
status_of Same = 0
status_of Different = 1
status_of (Answered status) = status
status_of (Refused side refusal) = 2
status_of (BadLiteral side refusal) = 2
status_of Read = 4
status_of (Write written) = 4
status_of Memory = 4
status_of _ = 3
