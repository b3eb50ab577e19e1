-- The first stretch of a text from an offset on, and what the profile lacks after it.
use Rattle.std.specs.Prelude.{◌≡◌, ℕ, ◌-◌, ◌<◌, ◌≤◌, drop, take, length, None, IsSome, IsSomeAnd}
use Rattle.pf_values.specs.declared.limits.TheConstants.{MAX_TEXT_LEN}
use Rattle.pf_values.specs.meaning.Items.{Reads}
use Rattle.pf_values.specs.meaning.Text.{Text}
use Rattle.pf_posix.specs.declared.opaque_directives.Opaque.{Opaque}
use Rattle.pf_posix.specs.declared.stretches.Stretch.{Stretch}
use Rattle.pf_posix.specs.Opaque.{SpellsOpaqueItem}
use Rattle.pf_posix.specs.OpaqueParts.{item_of_opaque}
use Rattle.pf_posix.specs.Stretches.{Stretches, Last, Before, ReadsStretches}

-- The stretch begins the text from this offset on, which is read so. Its items are read from its bytes;
-- the last stretch ends the text, and each other one ends where an opaque directive or `%m` begins.
abbrev pub IsHead : Text → ℕ → Stretches → Stretch → Type 0
IsHead t from (Last items) stretch = (stretch.opaque ≡ None) × (stretch.end ≡ length t)
    × Reads (take (stretch.end - from) (drop from t)) items
IsHead t from (Before items other rest) stretch =
    IsSomeAnd stretch.opaque (λ opaque. item_of_opaque opaque ≡ other)
    × Reads (take (stretch.end - from) (drop from t)) items
    × SpellsOpaqueItem (take (stretch.after - stretch.end) (drop stretch.end t)) other
    × ReadsStretches (drop stretch.after t) rest

-- an opaque directive or `%m` is the bytes from an offset up to where it ends, within the limit
pub record IsOpaqueAt (t : Text) (at : ℕ) (found : Opaque × ℕ) : Type 0 where
  pub some : at < found.1
  pub within : found.1 ≤ length t
  pub limit : found.1 ≤ MAX_TEXT_LEN
  pub spelled : SpellsOpaqueItem (take (found.1 - at) (drop at t)) (item_of_opaque found.0)

-- the offsets of a stretch are in the text, and what comes after it has some bytes
pub record IsPlaced (t : Text) (from : ℕ) (stretch : Stretch) : Type 0 where
  pub begins : from ≤ stretch.end
  pub ends : stretch.end ≤ stretch.after
  pub within : stretch.after ≤ length t
  pub further : IsSome stretch.opaque → stretch.end < stretch.after
