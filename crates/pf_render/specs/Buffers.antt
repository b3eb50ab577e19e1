-- What is counted of a text that isn't kept, and what fills the front of a buffer. This project's own.
use Rattle.std.specs.Prelude.{◌≡◌, ℕ, ◌+◌, ◌<◌, ◌≤◌, ◌^◌, ◌++◌, length, take, drop}
use Rattle.pf_values.specs.meaning.Text.{Text}
use Rattle.pf_render.specs.declared.filling.Filling.{Filling}
use Rattle.pf_render.specs.declared.text_length.TextLength.{TextLength}

-- the bytes were counted
abbrev pub IsMeasured : TextLength → TextLength → Text → Type 0
IsMeasured old new bytes = new.len ≡ old.len + length bytes

-- with them the text has 2^63 bytes or more
abbrev pub IsTooLong : TextLength → TextLength → Text → ℕ → Type 0
IsTooLong old new bytes written = 2 ^ 63 ≤ old.len + length bytes

-- the bytes at the front of a buffer, and those after them
abbrev pub filled_of : Filling → Text
filled_of filling = take filling.len filling.buffer.now

abbrev pub unfilled_of : Filling → Text
unfilled_of filling = drop filling.len filling.buffer.now

-- the bytes were put after those at the front
pub record HasFilled (old new : Filling) (bytes : Text) : Type 0 where
  pub filled : filled_of new ≡ filled_of old ++ bytes
  pub unfilled : unfilled_of new ≡ drop (length bytes) (unfilled_of old)
  pub same : new.buffer.ghost_name ≡ old.buffer.ghost_name

-- there is no room for them
abbrev pub HasNoRoom : Filling → Filling → Text → ℕ → Type 0
HasNoRoom old new bytes written = length (unfilled_of old) < length bytes
