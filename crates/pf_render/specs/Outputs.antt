-- What a call leaves where it puts bytes: a writer, or memory. This project's own.
use Rattle.std.specs.Prelude.{◌≡◌, ℕ, ◌+◌, ◌<◌, [], ◌++◌, length, Result, Ok, Err}
use Rattle.pf_values.specs.declared.writes.ShortWrite.{ShortWrite}
use Rattle.pf_values.specs.meaning.Text.{Text}

-- All the bytes were put between two states (`wrote`), or exactly the first ones (`stopped`).
module _ {O : Type 0} (wrote : O → O → Text → Type 0) (stopped : O → O → Text → ℕ → Type 0) where
  -- what was put adds up
  pub record IsOutput : Type 0 where
    pub nothing : (o : O) → wrote o o []
    pub joined : (old mid new : O) (first second : Text) → wrote old mid first
        → wrote mid new second → wrote old new (first ++ second)
    pub stopped_later : (old mid new : O) (before next rest : Text) (written : ℕ)
        → wrote old mid before → written < length next → stopped mid new next written
        → stopped old new (before ++ (next ++ rest)) (length before + written)

  -- all the bytes; or the first ones, fewer than all, as many as the fault says
  abbrev pub PutsUpTo : {E : Type 0} → (E → ℕ) → O → O → Text → Result (Unit {0}) E → Type 0
  PutsUpTo written old new bytes (Ok done) = wrote old new bytes
  PutsUpTo written old new bytes (Err fault) =
      stopped old new bytes (written fault) × (written fault < length bytes)

  -- all the bytes, and how many they are; or the first ones, fewer than all
  abbrev pub WritesCounted : O → O → Text → Result ℕ ShortWrite → Type 0
  WritesCounted old new bytes (Ok count) = wrote old new bytes × (count ≡ length bytes)
  WritesCounted old new bytes (Err short) =
      stopped old new bytes short.written × (short.written < length bytes)
