-- What is given bytes, one text after another. This project's own.
use Rattle.std.specs.Prelude.{◌≡◌, ℕ, ◌+◌, ◌<◌, ◌≤◌, ◌^◌, [], ◌++◌, length, ◌≢◌, Option, Some, None}
use Rattle.std.specs.Borrow.{Bor}
use Rattle.pf_values.specs.meaning.Text.{Text}
use Rattle.pf_canon.specs.declared.sink.ByteCount.{ByteCount}
use Rattle.pf_canon.specs.declared.sink.TextBuilder.{TextBuilder}
use Rattle.pf_canon.specs.declared.sink.Expected.{Expected}

-- what was given adds up
pub record IsSink {S : Type 0} (given : S → S → Text → Type 0) : Type 0 where
  pub none : (s : S) → given s s []
  pub both : (a b c : S) (t u : Text) → given a b t → given b c u → given a c (t ++ u)

-- `more` bytes more, where that many can be counted
abbrev pub Counts : ℕ → ℕ → ℕ → Type 0
Counts before more after = before + more < 2 ^ 128 → after ≡ before + more

-- they were counted
abbrev pub IsCounted : ByteCount → ByteCount → Text → Type 0
IsCounted old new bytes = Counts old.len (length bytes) new.len

-- the bytes of a text that is put together, and those for which there was no room
abbrev pub given_len : {R : Type 0} → (R → Text) → TextBuilder R → ℕ
given_len bytes_of builder = length (bytes_of builder.buffer) + builder.lost

-- they were counted, and appended unless there was no room for them or for others before; nothing is
-- taken away
pub record IsBuilt {R : Type 0} (bytes_of : R → Text) (old new : TextBuilder R) (bytes : Text) : Type 0 where
  pub grown : length (bytes_of old.buffer) ≤ length (bytes_of new.buffer)
  pub count : Counts (given_len bytes_of old) (length bytes) (given_len bytes_of new)
  pub whole : new.lost ≡ 0
      → (old.lost ≡ 0) × (bytes_of new.buffer ≡ bytes_of old.buffer ++ bytes)

-- this is left of a text after these bytes, or the text doesn't begin with them
abbrev pub IsFrontStripped : Option (Bor Text) → Text → Option (Bor Text) → Type 0
IsFrontStripped (Some left) bytes (Some rest) = left.now ≡ bytes ++ rest.now
IsFrontStripped (Some left) bytes None = (rest : Text) → left.now ≢ bytes ++ rest
IsFrontStripped None bytes rest = rest ≡ None

-- what is left of an expected text after these bytes
abbrev pub IsStripped : Expected → Expected → Text → Type 0
IsStripped old new bytes = IsFrontStripped old.left bytes new.left

-- this is left
abbrev pub IsLeft : Option (Bor Text) → Text → Type 0
IsLeft (Some left) t = left.now ≡ t
IsLeft None t = ⊥
