-- What the laws say.
use Rattle.std.specs.Prelude.{ℕ, ◌<◌, ◌++◌, ◌⊎◌}
use Rattle.std.specs.List.{AllByRecursion}
use Rattle.pf_literals.specs.declared.faults.LiteralKind.{LiteralKind}
use Rattle.pf_literals.specs.Elements.{Bytes}
use Rattle.pf_literals.specs.Faults.{IsFaultAt}
use Rattle.pf_literals.specs.Sources.{IsSourceOf}

-- a text is a source, or it has a fault
abbrev pub IsReadOrRefused : Bytes → Type 0
IsReadOrRefused t =
    ((bytes : Bytes) × IsSourceOf t bytes)
    ⊎ ((kind : LiteralKind) × (at : ℕ) × IsFaultAt t kind at)

-- a text is a source with some more bytes
abbrev pub CanGoOn : Bytes → Type 0
CanGoOn t = (more bytes : Bytes) × IsSourceOf (t ++ more) bytes

-- a text that a C string can hold: bytes without NUL
abbrev pub AreCStringBytes : Bytes → Type 0
AreCStringBytes t = AllByRecursion (λ byte. (0 < byte) × (byte < 256)) t
