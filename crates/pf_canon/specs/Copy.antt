-- What a copy has taken and written. This project's own.
use Rattle.std.specs.Prelude.{◌≡◌, ℕ, ◌<◌, Bool, true, false, length, Result, Ok, Err, ◌≢◌, ◌≤◌, List, ◌∷◌, ◌++◌, take, ◌⊎◌}
use Rattle.std.specs.Io.KnownBytes.{Appends, Consumes, IsAtEnd}
use Rattle.pf_values.specs.Counting.{Known, WritesAll, WritesFirst, HasFailed, failures_of}
use Rattle.pf_values.specs.meaning.Text.{Text}
use Rattle.pf_values.specs.declared.counted.Counted.{Counted}
use Rattle.pf_values.specs.declared.models.Model.{Model}
use Rattle.pf_values.specs.declared.refusals.RefusalKind.TheVariants.{Truncated}
use Rattle.pf_values.specs.meaning.Canonical.{IsCanonicalOf}
use Rattle.pf_values.specs.meaning.Items.{Item, IsAccepted}
use Rattle.pf_values.specs.meaning.Refusals.{IsRefusedAt}
use Rattle.pf_text.specs.declared.refusals.Refusal.{Refusal}
use Rattle.pf_canon.specs.declared.copy.Gathered.{Gathered}
use Rattle.pf_canon.specs.Sink.{Counts}
use Rattle.pf_canon.specs.declared.faults.CopyFault.{CopyFault}
use Rattle.pf_canon.specs.declared.faults.CopyFault.TheVariants as faults
use Rattle.pf_canon.specs.declared.limits.TheConstants.{COPY_BLOCK}
use Rattle.pf_canon.specs.declared.transducer.Transducer.{Transducer}
use Rattle.pf_canon.specs.Transducer.{IsThrough, SettlesTo, SettlesWhole, StaysRefused}

module _ {W : Type 0} (contents : W → Known) (old new : Counted W) (bytes : Text) (before : ℕ) where
  -- all of them, and how many went out by then
  abbrev pub PutsAll : ℕ → Type 0
  PutsAll after = WritesAll contents old new bytes × Counts before (length bytes) after

  -- some first bytes, fewer than all
  pub record PutsFirst (after : ℕ) : Type 0 where
    pub put : ℕ
    pub first : WritesFirst contents old new bytes put
    pub fewer : put < length bytes
    pub counts : Counts before put after

  -- all of them, or the first ones, and how many went out by then
  abbrev pub Puts : Result ℕ ℕ → Type 0
  Puts (Ok after) = PutsAll after
  Puts (Err after) = PutsFirst after

module _ {W : Type 0} (contents : W → Known) (old new : Counted W) (buffer bytes : Text) (before : ℕ) where
  -- Of the bytes in the buffer and of these all went out except those that are still in it; and how
  -- many went out by then.
  pub record GathersAll (still : Text) (after : ℕ) : Type 0 where
    pub out : Text
    pub split : buffer ++ bytes ≡ out ++ still
    pub puts : PutsAll contents old new out before after

  -- that, or some first bytes went out, fewer than all
  abbrev pub Gathers : Text → Result ℕ ℕ → Type 0
  Gathers still (Ok after) = GathersAll still after
  Gathers still (Err after) = PutsFirst contents old new (buffer ++ bytes) before after

  -- bytes were gathered, by whether the writer had failed before, and whether it has now: after a
  -- failure it isn't called
  abbrev pub GathersBy : Bool → Bool → Text → ℕ → Type 0
  GathersBy false false still after = GathersAll still after
  GathersBy false true still after = PutsFirst contents old new (buffer ++ bytes) before after
  GathersBy true true still after = (new ≡ old) × (after ≡ before)
  GathersBy true false still after = ⊥

-- bytes were gathered in one buffer, for one writer
pub record HasGathered {W : Type 0} (contents : W → Known) (old new : Gathered W)
    (bytes : Text) : Type 0 where
  pub puts : GathersBy contents old.writer.now new.writer.now old.buffer.now.items bytes
      old.count old.has_failed new.has_failed new.buffer.now.items new.count
  pub same : new.writer.ghost_name ≡ old.writer.ghost_name
  pub same_buffer : new.buffer.ghost_name ≡ old.buffer.ghost_name

-- The transducer took `front`, and all that it settles went out.
pub record IsWritten (model : Model) (r : Transducer) (front : Text) (w x : Known)
    (written : ℕ) : Type 0 where
  pub items : List Item
  pub out : Text
  pub through : IsThrough model r front items out
  pub writer : Appends w x out
  pub count : written ≡ length out

-- Just what `front` settles went out.
pub record SettledOut (model : Model) (front : Text) (w x : Known) : Type 0 where
  pub given : Text
  pub settles : SettlesTo model front given
  pub writer : Appends w x given

-- Fewer bytes than the whole items of `taken` settle went out, the first ones.
pub record FirstOut (model : Model) (taken : Text) (w x : Known) (written : ℕ) : Type 0 where
  pub settled : Text
  pub settles : SettlesWhole model taken settled
  pub fewer : written < length settled
  pub writer : Appends w x (take written settled)

-- the byte `last` after `front` is rejected, and just what `front` settles went out
pub record IsRefusedAfter (model : Model) (front : Text) (last : ℕ) (w x : Known)
    (refusal : Refusal) : Type 0 where
  pub offset : refusal.at ≡ length front
  pub kind : refusal.kind ≢ Truncated
  pub refused : StaysRefused front last refusal
  pub out : SettledOut model front w x

-- why a copy stopped in a part of a text after `front`
abbrev pub StopsIn : Model → Text → Text → Known → Known → CopyFault → Type 0
StopsIn model front text w x (faults.Refused refusal) =
    (fed : Text) × (last : ℕ) × (rest : Text) × (text ≡ fed ++ last ∷ rest)
    × IsRefusedAfter model (front ++ fed) last w x refusal
StopsIn model front text w x (faults.Write written) = FirstOut model (front ++ text) w x written
StopsIn model front text w x faults.Read = ⊥

-- a fault of the writer was counted
abbrev pub WriteCounts : {W E : Type 0} → Counted W → Counted W → Result E CopyFault → Type 0
WriteCounts old new (Ok done) = failures_of new ≡ failures_of old
WriteCounts old new (Err (faults.Write written)) = HasFailed old new
WriteCounts old new (Err faults.Read) = failures_of new ≡ failures_of old
WriteCounts old new (Err (faults.Refused refusal)) = failures_of new ≡ failures_of old

-- and one of the reader
abbrev pub ReadCounts : {R E : Type 0} → Counted R → Counted R → Result E CopyFault → Type 0
ReadCounts old new (Ok done) = failures_of new ≡ failures_of old
ReadCounts old new (Err faults.Read) = HasFailed old new
ReadCounts old new (Err (faults.Write written)) = failures_of new ≡ failures_of old
ReadCounts old new (Err (faults.Refused refusal)) = failures_of new ≡ failures_of old

-- a text was taken to its end, and its canonical text went out, of `count` bytes
pub record CopiesAll (model : Model) (start left w x : Known) (count : ℕ) : Type 0 where
  pub taken : Text
  pub canonical : Text
  pub reader : Consumes start left taken
  pub end : IsAtEnd left
  pub accepted : IsAccepted taken
  pub canonical_is : IsCanonicalOf model taken canonical
  pub writer : Appends w x canonical
  pub count_is : count ≡ length canonical

-- a text was taken to its end, and just the first bytes of its canonical text went out
pub record CopiesFirst (model : Model) (start left w x : Known) (written : ℕ) : Type 0 where
  pub taken : Text
  pub canonical : Text
  pub reader : Consumes start left taken
  pub end : IsAtEnd left
  pub accepted : IsAccepted taken
  pub canonical_is : IsCanonicalOf model taken canonical
  pub fewer : written < length canonical
  pub writer : Appends w x (take written canonical)

-- the text ended after `front`, and just what that settles went out
pub record EndsWithin (model : Model) (start left w x : Known) (front : Text)
    (refusal : Refusal) : Type 0 where
  pub reader : Consumes start left front
  pub end : IsAtEnd left
  pub offset : refusal.at ≡ length front
  pub kind : refusal.kind ≡ Truncated
  pub refused : IsRefusedAt front refusal.kind refusal.at
  pub out : SettledOut model front w x

-- A byte was rejected that came with the last block: from it on no more than that was taken.
pub record StopsInBlock (model : Model) (start left w x : Known) (front : Text) (last : ℕ)
    (rest : Text) (refusal : Refusal) : Type 0 where
  pub reader : Consumes start left (front ++ last ∷ rest)
  pub few : length (last ∷ rest) ≤ COPY_BLOCK
  pub stops : IsRefusedAfter model front last w x refusal

-- why a copy stopped
abbrev pub CopyStops : Model → Known → Known → Known → Known → CopyFault → Type 0
CopyStops model start left w x (faults.Refused refusal) =
    ((front : Text) × EndsWithin model start left w x front refusal)
    ⊎ ((front : Text) × (last : ℕ) × (rest : Text)
    × StopsInBlock model start left w x front last rest refusal)
CopyStops model start left w x faults.Read =
    (taken : Text) × Consumes start left taken × SettledOut model taken w x
CopyStops model start left w x (faults.Write written) =
    ((taken : Text) × Consumes start left taken × FirstOut model taken w x written)
    ⊎ CopiesFirst model start left w x written
