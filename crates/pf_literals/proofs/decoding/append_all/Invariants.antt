use Rattle.std.proofs.Common.{◌≡◌, ◌-◌, List, ℕ, length}
use Rattle.pf_literals.specs.Readings.{prefixed, source_reading}
use Rattle.pf_literals.specs.Walks.{reading_left}
use Rattle.pf_literals.proofs.decoding.append_all.Given as goal

abbrev pub invariant-loop-part : goal.invariant-loop-part
invariant-loop-part g l = (offsets : List ℕ) × (source_reading l.source ≡ prefixed l.out.items offsets (reading_left l.source l.cursor))

abbrev pub decreases-loop-part : goal.decreases-loop-part
decreases-loop-part g l = length l.source - l.cursor.at
