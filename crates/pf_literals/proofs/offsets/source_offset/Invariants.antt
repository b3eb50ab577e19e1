use Rattle.std.proofs.Common.{◌≡◌, ◌+◌, ◌-◌, List, ℕ, length}
use Rattle.pf_literals.specs.Readings.{prefixed, source_reading}
use Rattle.pf_literals.specs.Walks.{reading_left}
use Rattle.pf_literals.proofs.offsets.source_offset.Given as goal

abbrev pub invariant-loop-part : goal.invariant-loop-part
invariant-loop-part l = (bytes offsets : List ℕ) × (source_reading l.source ≡ prefixed bytes offsets (reading_left l.source l.cursor))
    × (l.index ≡ length offsets + l.left)

abbrev pub decreases-loop-part : goal.decreases-loop-part
decreases-loop-part l = length l.source - l.cursor.at
