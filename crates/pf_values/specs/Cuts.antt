-- What a clause sees of a writer with little room. This project's own.
use Rattle.std.specs.Prelude.{◌≡◌, ℕ, ◌-◌, Bool, length, take}
use Rattle.std.specs.declared.io.ErrorKind.{ErrorKind}
use Rattle.pf_values.specs.meaning.Text.{Text}
use Rattle.pf_values.specs.declared.devices.cut.Cut.{Cut}

-- the bytes that it has taken, which fill the front of its buffer
abbrev pub taken_of : Cut → Text
taken_of cut = take cut.len cut.buffer.now

-- how many more bytes it takes
abbrev pub room_of : Cut → ℕ
room_of cut = length cut.buffer.now - cut.len

-- how many bytes a call takes at most
abbrev pub step_of : Cut → ℕ
step_of cut = cut.step

-- the kind of error with which it fails
abbrev pub error_kind_of : Cut → ErrorKind
error_kind_of cut = cut.kind

-- whether each flush fails
abbrev pub flush_fails_of : Cut → Bool
flush_fails_of cut = cut.flush_fails

-- the part that a write leaves as it was: the size of the buffer, and the other arguments of `new`
pub record KeepsSettings (old new : Cut) : Type 0 where
  pub size : length new.buffer.now ≡ length old.buffer.now
  pub step : step_of new ≡ step_of old
  pub kind : error_kind_of new ≡ error_kind_of old
  pub flush : flush_fails_of new ≡ flush_fails_of old
