-- The results of the calls.
use Rattle.std.specs.Prelude.{◌≡◌, ◌≢◌, ℕ, List, [], ◌∷◌, ◌++◌, Some, slice_get}
use Rattle.pf_literals.specs.declared.faults.LiteralFault.{LiteralFault}
use Rattle.pf_literals.specs.declared.faults.LiteralFault.TheVariants.{Refused, Memory}
use Rattle.pf_literals.specs.Elements.{Bytes}
use Rattle.pf_literals.specs.Faults.{IsFaultAt}
use Rattle.pf_literals.specs.Sources.{HasOffsets, IsSourceOf}

-- Why there are no bytes. `Memory` only if the text is a source of at least one byte.
abbrev pub FaultForDecode : Bytes → LiteralFault → Type 0
FaultForDecode t (Refused refusal) = IsFaultAt t refusal.kind refusal.at
FaultForDecode t Memory = (bytes : Bytes) × IsSourceOf t bytes × (bytes ≢ [])

-- the offset of a byte of a source; after its bytes, that of the last closing quote
abbrev pub IsOffsetOf : Bytes → ℕ → ℕ → Type 0
IsOffsetOf t index at = (found : List ℕ) × (close : ℕ) × HasOffsets t found close
    × (slice_get (found ++ close ∷ []) index ≡ Some at)

-- the text is not a source, or one of fewer bytes
abbrev pub HasNoOffset : Bytes → ℕ → Type 0
HasNoOffset t index = (at : ℕ) → ¬ IsOffsetOf t index at
