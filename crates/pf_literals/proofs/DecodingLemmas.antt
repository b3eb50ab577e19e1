-- The bytes of a source, part by part.
use Rattle.std.proofs.Common.{sym, ◌≡◌, ◌≢◌, ℕ, ◌<◌, List, [], ◌++◌, length, ap, ap₂, ◌∙◌, arith, length-append}
use Rattle.std.proofs.lemmas.List.{append-nil}
use Rattle.pf_literals.specs.declared.cursor.Cursor.{Cursor}
use Rattle.pf_literals.specs.declared.faults.LiteralFault.{LiteralFault}
use Rattle.pf_literals.specs.declared.faults.LiteralFault.TheVariants.{Refused, Memory}
use Rattle.pf_literals.specs.declared.faults.LiteralKind.{LiteralKind}
use Rattle.pf_literals.specs.Answers.{FaultForDecode}
use Rattle.pf_literals.specs.Elements.{Bytes}
use Rattle.pf_literals.specs.Faults.{IsFaultAt}
use Rattle.pf_literals.specs.Readings.{Fault, SourceReading, Whole, prefixed, source_reading}
use Rattle.pf_literals.specs.Sources.{HasOffsets, IsSourceOf}
use Rattle.pf_literals.specs.Walks.{IsDecodingFault, reading_left}
use Rattle.pf_literals.proofs.Complete.{prefixed-prefixed}
use Rattle.pf_literals.proofs.Unique.{read_faulty, read_whole}

module _ (t : Bytes) (out offsets : List ℕ) (old : SourceReading) (so_far : source_reading t ≡ prefixed out offsets old) where
  pub moved : (more others : List ℕ) (new : SourceReading) → old ≡ prefixed more others new → source_reading t ≡ prefixed (out ++ more) (offsets ++ others) new
  moved more others new e = so_far ∙ ap (prefixed out offsets) e ∙ prefixed-prefixed out more offsets others new

  pub appended : (more others grown : List ℕ) (new : SourceReading) → old ≡ prefixed more others new → grown ≡ out ++ more
      → source_reading t ≡ prefixed grown (offsets ++ others) new
  appended more others grown new e g = moved more others new e ∙ ap (λ bytes. prefixed bytes (offsets ++ others) new) (sym g)

  pub all_read : (close : ℕ) → old ≡ Whole [] [] close → IsSourceOf t out × HasOffsets t offsets close
  all_read close e = read_whole t out offsets close (so_far ∙ ap (prefixed out offsets) e ∙ ap₂ (λ b p. Whole b p close) (append-nil out) (append-nil offsets))

  pub refused : (kind : LiteralKind) (at : ℕ) → old ≡ Fault kind at → IsFaultAt t kind at
  refused kind at e = read_faulty t kind at (so_far ∙ ap (prefixed out offsets) e)

some_bytes : (out more rest : List ℕ) → 0 < length more → out ++ more ++ rest ≢ []
some_bytes out more rest some e =
    let none = ap length e in
    let long = length-append (out ++ more) rest in
    let part = length-append out more in
    omega (arith, none, long, part, some)

-- memory for a part may be refused
pub hindered : (t : Bytes) (out offsets more others : List ℕ) (old : SourceReading) (cursor : Cursor) (fault : LiteralFault)
    → source_reading t ≡ prefixed out offsets old
    → old ≡ prefixed more others (reading_left t cursor) → 0 < length more → IsDecodingFault t cursor fault → FaultForDecode t fault
hindered t out offsets more others old cursor (Refused refusal) so_far e some stop =
    refused t (out ++ more) (offsets ++ others) (reading_left t cursor)
    (moved t out offsets old so_far more others (reading_left t cursor) e) refusal.kind refusal.at stop
hindered t out offsets more others old cursor Memory so_far e some (bytes, found, close, stop) = (
  out ++ more ++ bytes,
  (read_whole t (out ++ more ++ bytes) (offsets ++ others ++ found) close
      (moved t out offsets old so_far more others (reading_left t cursor) e ∙ ap (prefixed (out ++ more) (offsets ++ others)) stop)).0,
  some_bytes out more bytes some,
)
