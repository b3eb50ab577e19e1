-- Canonical texts that are put together on the stack. This project's own.
use Rattle.std.specs.Prelude.{◌≡◌, ◌<◌, length}
use Rattle.pf_values.specs.meaning.Text.{Text}
use Rattle.pf_canon.specs.declared.short_texts.TheConstants.{STACK_ROOM}
use Rattle.pf_canon.specs.declared.short_texts.Room.{Room}
use Rattle.pf_canon.specs.declared.short_texts.Room.TheVariants as rooms
use Rattle.pf_canon.specs.declared.short_texts.ShortText.{ShortText}
use Rattle.pf_canon.specs.Sink.{given_len}

-- the bytes that were put
abbrev pub short_text : ShortText → Text
short_text short = short.builder.buffer.items

-- nothing was put, or found no room
abbrev pub IsUnused : ShortText → Type 0
IsUnused short = given_len (λ v. v.items) short.builder ≡ 0

-- the canonical text of a format is there, or has this length, or the format is longer than the room
abbrev pub HasRoom : (Text → Type 0) → Text → ShortText → Room → Type 0
HasRoom IsCanonical t short rooms.Enough = IsCanonical (short_text short)
HasRoom IsCanonical t short (rooms.Counted len) = (c : Text) × IsCanonical c × (len ≡ length c)
HasRoom IsCanonical t short rooms.Unread = STACK_ROOM < length t
