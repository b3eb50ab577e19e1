-- Verbatim bytes: those that are themselves in a literal, as the code takes them.
use Rattle.std.specs.Prelude.{◌≡◌, ℕ, ◌<◌, ◌≤◌, false, Bool, ◌||◌, nat_lt, ◌==◌, slice_index}
use Rattle.std.specs.List.{AllByRecursion}
use Rattle.pf_literals.specs.Elements.{Bytes}

-- a byte that isn't verbatim: it isn't printed, it has an escape sequence, or it may begin a
-- trigraph
abbrev pub is_special : ℕ → Bool
is_special byte =
    nat_lt byte 32 || byte == 127 || byte == 34 || byte == 92 || byte == 63

-- bytes that are themselves in a literal, read or written
abbrev pub IsVerbatim : Bytes → Type 0
IsVerbatim bytes = AllByRecursion (λ byte. is_special byte ≡ false) bytes

-- the bytes of a text from one offset up to another are verbatim
abbrev pub IsVerbatimBetween : Bytes → ℕ → ℕ → Type 0
IsVerbatimBetween text from to =
    (k : ℕ) → from ≤ k → k < to → is_special (slice_index text k) ≡ false
