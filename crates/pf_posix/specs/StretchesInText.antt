-- Stretches as the code goes through them. No public contract names these.
use Rattle.std.specs.Prelude.{◌≡◌, ℕ, ◌<◌, ◌≤◌, List, [], ◌∷◌, ◌++◌, drop, length}
use Rattle.pf_values.specs.meaning.Items.{Item, Reads}
use Rattle.pf_values.specs.meaning.Text.{Text}
use Rattle.pf_posix.specs.declared.opaque_directives.OpaqueDirective.{OpaqueDirective}
use Rattle.pf_posix.specs.declared.specifications.Specification.{Specification}
use Rattle.pf_posix.specs.declared.stretches.Found.{Found}
use Rattle.pf_posix.specs.declared.stretches.Found.TheVariants as found
use Rattle.pf_posix.specs.Opaque.{SpellsOpaqueItem}
use Rattle.pf_posix.specs.OpaqueParts.{item_of_opaque}
use Rattle.pf_posix.specs.PartsInText.{IsSpecificationAt}
use Rattle.pf_posix.specs.Stretches.{Stretches, Last, Before, ReadsStretches}

-- an item before the first stretch, which has it then
abbrev pub push : Item → Stretches → Stretches
push item (Last items) = Last (item ∷ items)
push item (Before items other rest) = Before (item ∷ items) other rest

-- several items before the first stretch, which has them then
abbrev pub push_all : List Item → Stretches → Stretches
push_all [] rest = rest
push_all (item ∷ items) rest = push item (push_all items rest)

-- the text from an offset on is read as stretches, and begins with these items or with what the profile lacks
abbrev pub IsFound : Text → ℕ → Stretches → Found → Type 0
IsFound t at left (found.Items stop) = (items : List Item) × (bytes : Text) × (later : Stretches)
    × Reads bytes items × ReadsStretches (drop stop t) later × (drop at t ≡ bytes ++ drop stop t)
    × (left ≡ push_all items later)
IsFound t at left (found.Opaque other stop) = (bytes : Text) × (later : Stretches)
    × SpellsOpaqueItem bytes (item_of_opaque other) × ReadsStretches (drop stop t) later
    × (drop at t ≡ bytes ++ drop stop t) × (left ≡ Before [] (item_of_opaque other) later)

-- a text has a specification of these parts at an offset, which ends at another
abbrev pub HasPartsAt : Text → ℕ → OpaqueDirective × ℕ → Type 0
HasPartsAt t at found = (read : Specification) × IsSpecificationAt t at (read, found.1) × (read.parts ≡ found.0)

-- where that ends, which is after the offset
abbrev pub EndsBehind : Text → ℕ → Found → Type 0
EndsBehind t at (found.Items stop) = (at < stop) × (stop ≤ length t)
EndsBehind t at (found.Opaque other stop) = (at < stop) × (stop ≤ length t)
