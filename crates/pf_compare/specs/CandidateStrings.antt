-- The strings among the candidates. This project's own.
use Rattle.std.specs.Prelude.{ℕ, ◌<◌, ◌≤◌, ⊤}
use Rattle.pf_probes.specs.declared.candidate_rows.Candidate.{Candidate}
use Rattle.pf_probes.specs.declared.candidate_rows.Candidate.TheVariants.{Number, Repeat}

-- at most 4,096 bytes, each an A or each a B
abbrev pub IsStringOf : ℕ → ℕ → Type 0
IsStringOf byte count = (count ≤ 4096) × (0 < count → (65 ≤ byte) × (byte ≤ 66))

-- a candidate is a number, or such a string
abbrev pub IsCandidateString : Candidate → Type 0
IsCandidateString (Number n) = ⊤
IsCandidateString (Repeat byte count) = IsStringOf byte count
