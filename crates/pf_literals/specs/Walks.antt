-- The cursor over a source, as the code has it. No public contract names these.
use Rattle.std.specs.Prelude.{◌≡◌, ℕ, ◌+◌, ◌<◌, ◌≤◌, List, [], ◌∷◌, length, drop, Option, Some, None}
use Rattle.std.specs.List.{range_with_len}
use Rattle.pf_literals.specs.declared.cursor.Cursor.{Cursor}
use Rattle.pf_literals.specs.declared.cursor.SourcePart.{SourcePart}
use Rattle.pf_literals.specs.declared.cursor.SourcePart.TheVariants.{Verbatim, Byte}
use Rattle.pf_literals.specs.declared.cursor.NextPart.{NextPart}
use Rattle.pf_literals.specs.declared.cursor.NextPart.TheVariants as nexts
use Rattle.pf_literals.specs.declared.faults.LiteralFault.{LiteralFault}
use Rattle.pf_literals.specs.declared.faults.LiteralFault.TheVariants.{Refused, Memory}
use Rattle.pf_literals.specs.declared.faults.LiteralKind.{LiteralKind}
use Rattle.pf_literals.specs.Elements.{Bytes}
use Rattle.pf_literals.specs.Readings.{Fault, HasNoFault, SourceReading, Whole, prefixed, read_from}

-- what is read from a cursor on
abbrev pub reading_left : Bytes → Cursor → SourceReading
reading_left t cursor = read_from cursor.context 0 cursor.at (drop cursor.at t)

-- the bytes of a part, and where each comes from
abbrev pub part_bytes : SourcePart → Bytes
part_bytes (Verbatim verbatim at) = verbatim.now
part_bytes (Byte value at) = value ∷ []

abbrev pub part_offsets : SourcePart → List ℕ
part_offsets (Verbatim verbatim at) = range_with_len at (length verbatim.now)
part_offsets (Byte value at) = at ∷ []

-- the next element, between a cursor before it and after it
abbrev pub IsNextPart : Bytes → Cursor → NextPart → Cursor → Type 0
IsNextPart t old (nexts.Given part) new =
    reading_left t old ≡ prefixed (part_bytes part) (part_offsets part) (reading_left t new)
IsNextPart t old (nexts.End close) new = reading_left t old ≡ Whole [] [] close
IsNextPart t old (nexts.Refused refusal) new = reading_left t old ≡ Fault refusal.kind refusal.at

-- a part ends at this byte or before it
abbrev pub PartEndsBy : SourcePart → ℕ → Type 0
PartEndsBy (Verbatim verbatim at) end = at + length verbatim.now ≤ end
PartEndsBy (Byte value at) end = at + 1 ≤ end

-- a part has a byte, and the cursor moves on
abbrev pub AdvancesCursor : Bytes → Cursor → NextPart → Cursor → Type 0
AdvancesCursor t old (nexts.Given part) new =
    (old.at < new.at) × (new.at ≤ length t) × (0 < length (part_bytes part))
    × PartEndsBy part (length t)
AdvancesCursor t old _ new = Unit {0}

-- the fault of decoding from a cursor on: the refusal, or out of memory if there is none
abbrev pub IsDecodingFault : Bytes → Cursor → LiteralFault → Type 0
IsDecodingFault t cursor (Refused refusal) = reading_left t cursor ≡ Fault refusal.kind refusal.at
IsDecodingFault t cursor Memory = HasNoFault (reading_left t cursor)

-- an offset that was found, if the rest of the text is read
abbrev pub IsFoundOffset : Bytes → Cursor → ℕ → Option ℕ → Type 0
IsFoundOffset t cursor at (Some there) = (there ≡ at) × HasNoFault (reading_left t cursor)
IsFoundOffset t cursor at None =
    (kind : LiteralKind) × (context : ℕ) × (reading_left t cursor ≡ Fault kind context)
