-- The bytes `%` and 0 of a text, marked by the bits of a number. This project's own.
use Rattle.std.specs.Prelude.{◌≡◌, ◌^◌, ℕ, ◌<◌, ◌≤◌, length}
use Rattle.std.specs.Int.{bit_at}
use Rattle.memchr.specs.Find.{Passes, is_byte2}
use Rattle.pf_values.specs.meaning.Text.{Text}
use Rattle.pf_text.specs.declared.marks.Marks.{Marks}

-- the bits that are set are those of bytes `%` and 0, and of each from one offset up to another
pub record IsMarked (bits : ℕ) (t : Text) (start stop : ℕ) : Type 0 where
  pub ends : (k : ℕ) → start ≤ k → k < stop → Passes (is_byte2 37 0) t k → bit_at bits k ≡ 1
  pub only : (k : ℕ) → bit_at bits k ≡ 1 → Passes (is_byte2 37 0) t k
  pub few : bits < 2 ^ stop

-- no bit is set from one offset up to another
abbrev pub HasNoBit : ℕ → ℕ → ℕ → Type 0
HasNoBit bits start stop = (k : ℕ) → start ≤ k → k < stop → bit_at bits k ≡ 0

-- a text is marked
abbrev pub AreMarksOf : Marks → Text → Type 0
AreMarksOf marks text = IsMarked marks.bits text 0 (length text)

-- there is no mark from one offset up to another
abbrev pub HasNoMark : Marks → ℕ → ℕ → Type 0
HasNoMark marks = HasNoBit marks.bits

-- there is one at an offset
abbrev pub HasMark : Marks → ℕ → Type 0
HasMark marks at = bit_at marks.bits at ≡ 1
