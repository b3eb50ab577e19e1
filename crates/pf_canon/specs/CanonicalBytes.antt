-- What was taken of a text and given of its canonical text, byte by byte. This project's own.
use Rattle.std.specs.Prelude.{
  ◌≡◌,
  [],
  ◌∷◌,
  ◌≢◌,
  ℕ,
  ◌+◌,
  ◌-◌,
  ◌*◌,
  ◌≤◌,
  ◌<◌,
  true,
  false,
  List,
  ◌++◌,
  length,
  Option,
  Some,
  None,
  Result,
  Ok,
  Err,
  IfOk,
  ◌⊎◌,
  MatchBool,
  if◌then◌else◌,
  ⊤,
  take,
  drop,
}
use Rattle.std.specs.Io.KnownBytes.{Consumes, IsAtEnd}
use Rattle.std.specs.Iterator.{Count, at_most}
use Rattle.pf_values.specs.Counting.{HasFailed, Known, failures_of, device_of}
use Rattle.pf_values.specs.declared.counted.Counted.{Counted}
use Rattle.pf_values.specs.declared.limits.TheConstants.{MAX_TEXT_LEN}
use Rattle.pf_values.specs.declared.models.Model.{Model}
use Rattle.pf_values.specs.declared.refusals.RefusalKind.TheVariants.{Truncated}
use Rattle.pf_values.specs.meaning.Canonical.{IsCanonicalOf}
use Rattle.pf_values.specs.meaning.Items.{Item, IsAccepted}
use Rattle.pf_values.specs.meaning.Refusals.{IsRefusedAt}
use Rattle.pf_values.specs.meaning.Text.{Text}
use Rattle.pf_text.specs.declared.refusals.Refusal.{Refusal}
use Rattle.pf_text.specs.History.{offset_of}
use Rattle.pf_canon.specs.declared.canonical_bytes.ByteRead.{ByteRead}
use Rattle.pf_canon.specs.declared.canonical_bytes.ByteRead.TheVariants as byte_reads
use Rattle.pf_canon.specs.declared.faults.StreamFault.{StreamFault}
use Rattle.pf_canon.specs.declared.faults.StreamFault.TheVariants as faults
use Rattle.pf_canon.specs.declared.limits.TheConstants.{MAX_DIRECTIVE_LEN}
use Rattle.pf_canon.specs.declared.canonical_bytes.ByteTransducer.{ByteTransducer}
use Rattle.pf_canon.specs.declared.transducer.Transducer.{Transducer}
use Rattle.pf_canon.specs.Output.{pending_text}
use Rattle.pf_canon.specs.Transducer.{IsThrough, SettlesTo, StaysRefused, scanner_of, held_silents_of}
use Rattle.pf_canon.specs.declared.canonical_bytes.CanonBytes.{CanonBytes}

-- a byte was taken, or the reader is at its end, or it failed
abbrev pub FindsByte : Known → Known → ByteRead → Type 0
FindsByte old new (byte_reads.Byte byte) = Consumes old new (byte ∷ [])
FindsByte old new byte_reads.End = Consumes old new [] × IsAtEnd new
FindsByte old new byte_reads.Failed = Consumes old new []

module _ {B : Type 0} (kept failed : B → B → Type 0) where
  -- a failure was counted where the reader failed
  abbrev pub CountsByteRead : B → B → ByteRead → Type 0
  CountsByteRead old new (byte_reads.Byte byte) = kept old new
  CountsByteRead old new byte_reads.End = kept old new
  CountsByteRead old new byte_reads.Failed = failed old new

-- one failed call after calls that did not fail
pub failed_later : {R : Type 0} → (a b c : Counted R) → failures_of b ≡ failures_of a
    → HasFailed b c → HasFailed a c
failed_later a b c e h = rw (← e) h

-- all that was settled before the last byte taken was given
abbrev pub IsLean : Model → Text → Text → Type 0
IsLean model taken given =
    (before : Text) × (last : ℕ) × (settled : Text) × (taken ≡ before ++ last ∷ [])
    × SettlesTo model before settled × (length settled ≤ length given)

-- no byte was taken but to give one more
abbrev pub IsReadFor : Model → Text → Text → Type 0
IsReadFor model taken given = (taken ≡ []) ⊎ IsLean model taken given

-- The text is not at its end. `taken` was taken, and all that it settles was given, except
-- `pending`.
pub record IsReading (model : Model) (r : Transducer) (pending : Text) (start left : Known)
    (taken given : Text) : Type 0 where
  pub reader : Consumes start left taken
  pub items : List Item
  pub out : Text
  pub through : IsThrough model r taken items out
  pub whole : out ≡ given ++ pending
  pub lean : pending ≢ [] → IsLean model taken given
  pub read : IsReadFor model taken given

-- All was taken, and the canonical text was given, except `pending`.
pub record IsEnding (model : Model) (pending : Text) (start left : Known)
    (taken given : Text) : Type 0 where
  pub reader : Consumes start left taken
  pub end : IsAtEnd left
  pub accepted : IsAccepted taken
  pub canonical : IsCanonicalOf model taken (given ++ pending)
  pub read : IsReadFor model taken given

-- the byte is given as soon as it is settled
pub record IsInTime (model : Model) (taken given : Text) (byte : ℕ) : Type 0 where
  pub settled : Text
  pub rest : Text
  pub settles : SettlesTo model taken settled
  pub begins : settled ≡ (given ++ byte ∷ []) ++ rest
  pub lean : IsLean model taken given

-- after `taken` the text ends, or goes on with a byte that is rejected however it goes on
pub record IsRefusedBehind (start left : Known) (taken : Text) (refusal : Refusal) : Type 0 where
  pub offset : refusal.at ≡ length taken
  pub cause : (
      (refusal.kind ≡ Truncated) × Consumes start left taken × IsAtEnd left
      × IsRefusedAt taken refusal.kind refusal.at) ⊎ (
      (last : ℕ) × (refusal.kind ≢ Truncated) × Consumes start left (taken ++ last ∷ [])
      × StaysRefused taken last refusal)

-- what is pending
abbrev pub pending_in : ByteTransducer → Text
pending_in s = pending_text s.pending

-- nothing comes any more
abbrev pub IsOver : ByteTransducer → Type 0
IsOver s = (s.is_open ≡ false) × (pending_text s.pending ≡ [])

-- of a text that had `start`, and has `left`, `taken` was taken, and `given` was given
abbrev pub History : Model → ByteTransducer → Known → Known → Text → Text → Type 0
History model s start left taken given = MatchBool s.is_open
    (IsReading model s.transducer (pending_text s.pending) start left taken given)
    (IsEnding model (pending_text s.pending) start left taken given)

-- What an answer leaves, where `taken` was taken by then and `given` was given before.
abbrev pub AnswerLeaves : Model → Option (Result ℕ StreamFault) → ByteTransducer → Known → Known
    → Text → Text → Type 0
AnswerLeaves model None new start left taken given =
    IsEnding model [] start left taken given × IsOver new
AnswerLeaves model (Some (Ok byte)) new start left taken given =
    History model new start left taken (given ++ byte ∷ []) × IsReadFor model taken given
    × (new.is_open ≡ true → IsInTime model taken given byte)
AnswerLeaves model (Some (Err faults.Read)) new start left taken given =
    Consumes start left taken × SettlesTo model taken given × IsReadFor model taken given
    × IsOver new
AnswerLeaves model (Some (Err (faults.Refused refusal))) new start left taken given =
    IsRefusedBehind start left taken refusal × SettlesTo model taken given
    × IsReadFor model taken given
    × IsOver new

-- nothing is pending, and the text may go on
abbrev pub WantsByte : ByteTransducer → Type 0
WantsByte s = (s.is_open ≡ true) × (pending_in s ≡ [])

-- something is pending, or the text is over
abbrev pub IsFilled : ByteTransducer → Type 0
IsFilled s = pending_in s ≡ [] → s.is_open ≡ false

-- what is left where more of the text was taken, or it stopped
abbrev pub FillLeaves : Model → Result (Unit {0}) StreamFault → ByteTransducer → Known → Known
    → Text → Text → Type 0
FillLeaves model (Ok done) new start left taken given = History model new start left taken given
FillLeaves model (Err fault) new start left taken given =
    AnswerLeaves model (Some (Err fault)) new start left taken given

-- no fault of the reader
abbrev pub IsNoReadFault : Result (Unit {0}) StreamFault → Type 0
IsNoReadFault (Err faults.Read) = ⊥
IsNoReadFault r = ⊤

module _ {B : Type 0} (kept failed : B → B → Type 0) where
  -- what a fault says of the failures of a reader
  abbrev pub FaultCounts : StreamFault → B → B → Type 0
  FaultCounts faults.Read old new = failed old new
  FaultCounts (faults.Refused refusal) old new = kept old new

  -- a failure was counted where the answer is one
  abbrev pub CountsFault : Option (Result ℕ StreamFault) → B → B → Type 0
  CountsFault (Some (Err fault)) old new = FaultCounts fault old new
  CountsFault r old new = kept old new

  -- a failure was counted if the result of reading on is one
  abbrev pub CountsDrain : {E : Type 0} → Result E StreamFault → B → B → Type 0
  CountsDrain (Ok done) old new = kept old new
  CountsDrain (Err fault) old new = FaultCounts fault old new

-- what a call of `next` answers and leaves, in the data model of what went before
pub record StepsBy {B : Type 0} (left : B → Known) (kept failed : B → B → Type 0)
    (old : ByteTransducer) (from : B) (r : Option (Result ℕ StreamFault)) (new : ByteTransducer)
    (to : B) : Type 0 where
  pub next : (model : Model) (start : Known) (taken given : Text)
      → History model old start (left from) taken given
      → (more : Text) × AnswerLeaves model r new start (left to) (taken ++ more) given
  pub over : IsOver old → (r ≡ None) × IsOver new × (to ≡ from)
  pub counts : CountsFault kept failed r from to

-- a bound on what may still come: bytes, and a fault
abbrev pub units : ByteTransducer → ℕ
units s = length (pending_text s.pending) + (if s.is_open
    then (MAX_TEXT_LEN - offset_of (scanner_of s.transducer)) * (MAX_DIRECTIVE_LEN + 1)
    + 4 * held_silents_of s.transducer + 2
    else 0)

-- an answer that gives something leaves less to come
abbrev pub LowersAnswer : Option (Result ℕ StreamFault) → ByteTransducer → ByteTransducer → Type 0
LowersAnswer None old new = units new ≤ units old
LowersAnswer (Some r) old new = units new < units old

-- so does a fault
abbrev pub LowersFill : Result (Unit {0}) StreamFault → ByteTransducer → ByteTransducer → Type 0
LowersFill (Ok done) old new = units new ≤ units old
LowersFill (Err fault) old new = units new < units old

-- What a call of `fill` answers and leaves. Where something is pending or the text is over already,
-- it does nothing.
pub record FillsBy {B : Type 0} (left : B → Known) (kept failed : B → B → Type 0)
    (old : ByteTransducer) (from : B) (r : Result (Unit {0}) StreamFault) (new : ByteTransducer)
    (to : B) : Type 0 where
  pub next : (model : Model) (start : Known) (taken given : Text)
      → History model old start (left from) taken given
      → (more : Text) × FillLeaves model r new start (left to) (taken ++ more) given
  pub filled : IfOk r (λ _. IsFilled new)
  pub still : IsFilled old → (r ≡ Ok tt) × (new ≡ old) × (to ≡ from)
  pub counts : CountsDrain kept failed r from to
  pub lower : LowersFill r old new

module _ {R : Type 0} where
  -- the reader that it takes from
  abbrev pub reader_of : CanonBytes R → Counted R
  reader_of c = c.reader

  module _ (known : R → Known) where
    -- what a reader still has
    abbrev pub left_in : Counted R → Known
    left_in r = known (device_of r)

  -- how many more answers come at most
  abbrev pub bytes_to_come : CanonBytes R → Count
  bytes_to_come c = at_most (units c.transducer)

module _ (model : Model) {R : Type 0} (known : R → Known) where
  -- `taken` was taken from a reader that had `start`, and `given` was given
  abbrev pub StreamHistory : CanonBytes R → Known → Text → Text → Type 0
  StreamHistory c start taken given =
      History model c.transducer start (left_in known c.reader) taken given

module _ {R : Type 0} (known : R → Known) where
  -- what a call of `next` answers and leaves, in the data model of what went before
  abbrev pub Steps : CanonBytes R → Option (Result ℕ StreamFault) → CanonBytes R → Type 0
  Steps old r new = StepsBy
      (left_in known) (λ old new. failures_of new ≡ failures_of old) HasFailed
      old.transducer old.reader r new.transducer new.reader

-- What a run over a reader that had the text `t` has given where it ends: at the end all of the
-- canonical text, and before a fault just what is settled of what was taken. A byte that is rejected
-- was taken, and none after it.
abbrev pub RunEnds : Model → Text → Known → Text → Result (Unit {0}) StreamFault → Type 0
RunEnds model t left given (Ok done) =
    IsAccepted t × IsCanonicalOf model t given × (left ≡ Some [])
RunEnds model t left given (Err (faults.Refused refusal)) =
    IsRefusedAt t refusal.kind refusal.at × SettlesTo model (take refusal.at t) given
    × (left ≡ Some (drop (refusal.at + 1) t))
RunEnds model t left given (Err faults.Read) =
    (taken rest : Text) × (t ≡ taken ++ rest) × (left ≡ Some rest) × SettlesTo model taken given

-- bytes that begin the canonical text, or what is settled of a front of the text
abbrev pub RunBegins : Model → Text → Text → Type 0
RunBegins model t given =
    (more : Text) × (IsCanonicalOf model t (given ++ more)
    ⊎ ((taken rest : Text) × (t ≡ taken ++ rest) × SettlesTo model taken (given ++ more)))
