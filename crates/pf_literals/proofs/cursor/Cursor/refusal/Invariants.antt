use Rattle.std.proofs.Common.{◌≡◌, ◌-◌, List, ℕ, length}
use Rattle.pf_literals.specs.Readings.{prefixed}
use Rattle.pf_literals.specs.Walks.{reading_left}
use Rattle.pf_literals.proofs.cursor.Cursor.refusal.Given as goal

abbrev pub invariant-loop-refusal : goal.invariant-loop-refusal
invariant-loop-refusal l = (bytes offsets : List ℕ) × (reading_left l.source l.fn.self ≡ prefixed bytes offsets (reading_left l.source l.cursor))

abbrev pub decreases-loop-refusal : goal.decreases-loop-refusal
decreases-loop-refusal l = length l.source - l.cursor.at
