-- How a counted device counts its calls and its failures, and what a call that writes leaves. This
-- project's own: C11 7.21.6.1 p14 has one negative number for every failed write.
use Rattle.std.specs.Prelude.{◌≡◌, ℕ, ◌+◌, ◌-◌, ◌^◌, ◌<◌, ◌≤◌, Bool, true, ◌&&◌, ◌==◌, nat_lt, min, length, take, Option, Result, Ok, Err, if◌then◌else◌}
use Rattle.std.specs.Io.KnownBytes.{Appends}
use Rattle.pf_values.specs.declared.counted.Counted.{Counted}
use Rattle.pf_values.specs.declared.writes.ShortWrite.{ShortWrite}
use Rattle.pf_values.specs.meaning.Text.{Text}

module _ {T : Type 0} where
  -- the reader or writer inside
  abbrev pub device_of : Counted T → T
  device_of c = c.device

  -- how many calls it has had
  abbrev pub calls_of : Counted T → ℕ
  calls_of c = c.calls

  -- how many of them have failed
  abbrev pub failures_of : Counted T → ℕ
  failures_of c = c.failures

  -- whether its last call was a flush, which may have failed
  abbrev pub is_flushed : Counted T → Bool
  is_flushed c = c.is_flushed

-- the largest count: none goes above it
abbrev pub max_count : ℕ
max_count = 2 ^ 64 - 1

-- the count of calls after one more
abbrev pub calls_after : ℕ → ℕ
calls_after calls = min (calls + 1) max_count

-- the count of failures after one more call
abbrev pub failures_after : ℕ → Bool → ℕ
failures_after failures failed = if failed then min (failures + 1) max_count else failures

-- an error, or none of some bytes was taken
abbrev pub write_failed : {E : Type 0} → Result ℕ E → Text → Bool
write_failed (Ok taken) bytes = (taken == 0) && nat_lt 0 (length bytes)
write_failed (Err e) bytes = true

-- just one call of the device failed in between
abbrev pub HasFailed : {T : Type 0} → Counted T → Counted T → Type 0
HasFailed old new = failures_of new ≡ failures_after (failures_of old) true

-- the bytes that a writer holds, where its contract says which
abbrev pub Known : Type 0
Known = Option Text

module _ {W : Type 0} (contents : W → Known) (old new : Counted W) (bytes : Text) where
  -- all the bytes went out, and no call failed
  pub record WritesAll : Type 0 where
    pub appended : Appends (contents (device_of old)) (contents (device_of new)) bytes
    pub none_failed : failures_of new ≡ failures_of old

  -- exactly the first ones went out, and just one call failed
  pub record WritesFirst (written : ℕ) : Type 0 where
    pub appended :
        Appends (contents (device_of old)) (contents (device_of new)) (take written bytes)
    pub within : written ≤ length bytes
    pub failed : HasFailed old new

  -- all of them; or the first ones, fewer than all, as many as the fault says
  abbrev pub WritesUpTo : {E : Type 0} → (E → ℕ) → Result (Unit {0}) E → Type 0
  WritesUpTo written (Ok done) = WritesAll
  WritesUpTo written (Err fault) = WritesFirst (written fault) × (written fault < length bytes)

  -- what was written by a call whose error is a `ShortWrite`
  abbrev pub Writes : Result (Unit {0}) ShortWrite → Type 0
  Writes result = WritesUpTo (λ short. short.written) result
