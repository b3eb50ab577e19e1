-- What a byte transducer has taken and given, one step after another.
use Rattle.std.proofs.Common.{◌≡◌, ◌≢◌, ℕ, Bool, true, false, [], ◌∷◌, ◌++◌, List, refl, sym, ap, ◌∙◌, subst, arith, inl, inr, Some, Ok, Err, Result}
use Rattle.std.specs.Prelude.{MatchBool}
use Rattle.std.specs.Io.KnownBytes.{Consumes, IsAtEnd}
use Rattle.std.proofs.KnownBytes.{Consumes-trans}
use Rattle.std.proofs.lemmas.List.{append-nil, append_assoc, length-append}
use Rattle.pf_values.specs.declared.models.Model.{Model}
use Rattle.pf_values.specs.Counting.{Known}
use Rattle.pf_values.specs.meaning.Items.{Item}
use Rattle.pf_values.specs.meaning.Text.{Text}
use Rattle.pf_text.specs.declared.refusals.Refusal.{Refusal}
use Rattle.pf_canon.specs.declared.faults.StreamFault.{StreamFault}
use Rattle.pf_canon.specs.declared.faults.StreamFault.TheVariants as faults
use Rattle.pf_canon.specs.declared.output.SettledText.{SettledText}
use Rattle.pf_canon.specs.declared.canonical_bytes.ByteTransducer.{ByteTransducer}
use Rattle.pf_canon.specs.declared.output.StepOutput.{StepOutput}
use Rattle.pf_canon.specs.declared.transducer.Transducer.{Transducer}
use Rattle.pf_canon.specs.Output.{output_text}
use Rattle.pf_canon.specs.CanonicalBytes.{AnswerLeaves, CountsDrain, FaultCounts, IsEnding, IsInTime, IsLean, IsReadFor, IsReading, IsRefusedBehind}
use Rattle.pf_canon.specs.CanonicalBytes.{IsNoReadFault}
use Rattle.pf_canon.specs.Comparison.{StopsBy}
use Rattle.pf_canon.specs.Transducer.{SettlesEnd, GrowsByByte, IsThrough, SettlesTo, TakesByte, byte_output_text}
use Rattle.pf_canon.proofs.TransducerLemmas.{through_settles}
use Rattle.pf_canon.proofs.TextLemmas.{not_truncated}

-- nothing more was taken
pub none_more : (P : Text → Type 0) (taken : Text) → P taken → (more : Text) × P (taken ++ more)
none_more P taken h = ([], subst P (sym (append-nil taken)) h)

-- what is taken later
pub more_later : (P : Text → Type 0) (taken more : Text) → (later : Text) × P ((taken ++ more) ++ later) → (all : Text) × P (taken ++ all)
more_later P taken more h = (more ++ h.0, subst P (append_assoc taken more h.0) h.1)

abbrev pub HistoryOf : Model → Bool → Transducer → Text → Known → Known → Text → Text → Type 0
HistoryOf model is_open r pending start left taken given = MatchBool is_open (IsReading model r pending start left taken given)
    (IsEnding model pending start left taken given)

lean_still : (model : Model) (taken given more : Text) → IsLean model taken given → IsLean model taken (given ++ more)
lean_still model taken given more h = let few = h.5 in (h.0, h.1, h.2, h.3, h.4, omega (arith, few, length-append given more))

read_still : (model : Model) (taken given more : Text) → IsReadFor model taken given → IsReadFor model taken (given ++ more)
read_still model taken given more (inl none) = inl none
read_still model taken given more (inr lean) = inr (lean_still model taken given more lean)

some_left : (more rest : Text) → rest ≢ [] → more ++ rest ≢ []
some_left [] rest some none = some none
some_left (byte ∷ more) rest some none = cc

-- the first bytes that wait are given
pub given_more : (model : Model) (is_open : Bool) (r : Transducer) (pending more rest : Text) (start left : Known) (taken given : Text)
    → pending ≡ more ++ rest → HistoryOf model is_open r pending start left taken given → HistoryOf model is_open r rest start left taken (given ++ more)
given_more model true r pending more rest start left taken given e h = record {
  reader = h.reader;
  items = h.items;
  out = h.out;
  through = h.through;
  whole = h.whole ∙ ap (λ t. given ++ t) e ∙ sym (append_assoc given more rest);
  lean = λ some. lean_still model taken given more (h.lean (λ none. some_left more rest some (sym e ∙ none)));
  read = read_still model taken given more h.read;
}
given_more model false r pending more rest start left taken given e h = record {
  reader = h.reader;
  end = h.end;
  accepted = h.accepted;
  canonical = rw (append_assoc given more rest, ← e) h.canonical;
  read = read_still model taken given more h.read;
}

-- no byte was taken but to give one more
pub read_in : (model : Model) (is_open : Bool) (r : Transducer) (pending : Text) (start left : Known) (taken given : Text)
    → HistoryOf model is_open r pending start left taken given → IsReadFor model taken given
read_in model true r pending start left taken given h = h.read
read_in model false r pending start left taken given h = h.read

pub reader_in : (model : Model) (is_open : Bool) (r : Transducer) (pending : Text) (start left : Known) (taken given : Text)
    → HistoryOf model is_open r pending start left taken given → Consumes start left taken
reader_in model true r pending start left taken given h = h.reader
reader_in model false r pending start left taken given h = h.reader

in_time : (model : Model) (is_open : Bool) (r : Transducer) (pending rest : Text) (start left : Known) (taken given : Text) (byte : ℕ) → pending ≡ byte ∷ rest
    → HistoryOf model is_open r pending start left taken given → is_open ≡ true → IsInTime model taken given byte
in_time model false r pending rest start left taken given byte e h going = absurd (cc)
in_time model true r pending rest start left taken given byte e h going = record {
  settled = h.out;
  rest = rest;
  settles = through_settles model r taken h.out h.items h.through;
  begins = h.whole ∙ ap (λ t. given ++ t) e ∙ sym (append_assoc given (byte ∷ []) rest);
  lean = h.lean (λ none. let both : byte ∷ rest ≡ [] = sym e ∙ none in cc);
}

abbrev pub GivenByte : Model → Bool → Transducer → Text → Known → Known → Text → ℕ → Text → Type 0
GivenByte model is_open r rest start left given byte taken = HistoryOf model is_open r rest start left taken (given ++ byte ∷ [])
    × IsReadFor model taken given × (is_open ≡ true → IsInTime model taken given byte)

-- a byte that waits is given
pub gives : (model : Model) (is_open : Bool) (r : Transducer) (pending rest : Text) (start left : Known) (taken given : Text) (byte : ℕ)
    → pending ≡ byte ∷ rest → HistoryOf model is_open r pending start left taken given → GivenByte model is_open r rest start left given byte taken
gives model is_open r pending rest start left taken given byte e h = (
  given_more model is_open r pending (byte ∷ []) rest start left taken given e h,
  read_in model is_open r pending start left taken given h,
  in_time model is_open r pending rest start left taken given byte e h,
)

-- what is left after the end
pub ending : (model : Model) (is_open : Bool) (r : Transducer) (pending : Text) (start left : Known) (taken given : Text) → is_open ≡ false
    → HistoryOf model is_open r pending start left taken given → IsEnding model pending start left taken given
ending model true r pending start left taken given closed h = absurd (cc)
ending model false r pending start left taken given closed h = h

-- nothing waits, and the text goes on
pub record IsAsking (model : Model) (r : Transducer) (start left : Known) (taken given : Text) : Type 0 where
  pub reader : Consumes start left taken
  pub items : List Item
  pub through : IsThrough model r taken items given
  pub read : IsReadFor model taken given

pub asking : (model : Model) (is_open : Bool) (r : Transducer) (pending : Text) (start left : Known) (taken given : Text) → is_open ≡ true → pending ≡ []
    → HistoryOf model is_open r pending start left taken given → IsAsking model r start left taken given
asking model false r pending start left taken given going none h = absurd (cc)
asking model true r pending start left taken given going none h =
    record {
      reader = h.reader;
      items = h.items;
      through = subst (IsThrough model r taken h.items)
          (h.whole ∙ ap (λ t. given ++ t) none ∙ append-nil given) h.through;
      read = h.read;
    }

to_open : (is_open : Bool) (P Q : Type 0) → is_open ≡ true → P → MatchBool is_open P Q
to_open true P Q e h = h
to_open false P Q e h = absurd (cc)

module _ (model : Model) (old new : Transducer) (start left : Known) (taken given : Text) (items : List Item) (byte : ℕ)
    (through : IsThrough model old taken items given) (read : IsReadFor model taken given) where
  lean : IsLean model (taken ++ byte ∷ []) given
  lean = (taken, byte, given, refl, through_settles model old taken given items through, omega arith)

  module _ (reader : Consumes start left (taken ++ byte ∷ [])) where
    -- what the byte settled waits
    pub waits : (is_open : Bool) (pending : Text) (output : StepOutput) → is_open ≡ true → byte_output_text output byte ≡ pending
        → GrowsByByte model taken items given byte output new → (more : Text) × HistoryOf model is_open new pending start left (taken ++ more) given
    waits is_open pending output going e g = (
      byte ∷ [],
      to_open is_open _ _ going (record {
        reader = reader;
        items = items ++ g.more;
        out = given ++ byte_output_text output byte;
        through = g.through;
        whole = ap (λ t. given ++ t) e;
        lean = λ some. lean;
        read = inr lean;
      }),
    )

    -- the byte is rejected
    pub refuses : (refusal : Refusal) (P : Type 0) → P → TakesByte model taken items given byte (Err refusal) new
        → (more : Text) × (IsRefusedBehind start left (taken ++ more) refusal × SettlesTo model (taken ++ more) given × IsReadFor model (taken ++ more) given
        × P)
    refuses refusal P p f =
        none_more (λ t. IsRefusedBehind start left t refusal × SettlesTo model t given × IsReadFor model t given × P) taken (
          record { offset = f.0; cause = inr (byte, not_truncated taken byte [] refusal.kind refusal.at f.0 (f.1 []), reader, f.1) },
          through_settles model old taken given items through,
          read,
          p,
        )

module _ (model : Model) (r : Transducer) (start left : Known) (taken given : Text) (items : List Item) (through : IsThrough model r taken items given)
    (read : IsReadFor model taken given) (reader : Consumes start left taken) where
  -- the reader failed
  pub fails : (P : Type 0) → P → (more : Text) × (Consumes start left (taken ++ more) × SettlesTo model (taken ++ more) given
      × IsReadFor model (taken ++ more) given × P)
  fails P p = none_more (λ t. Consumes start left t × SettlesTo model t given × IsReadFor model t given × P) taken
      (reader, through_settles model r taken given items through, read, p)

  module _ (end : IsAtEnd left) where
    -- what the end settled waits
    pub waits_last : (output : SettledText) (pending : Text) → output_text output ≡ pending → SettlesEnd model taken items given (Ok output)
        → (more : Text) × IsEnding model pending start left (taken ++ more) given
    waits_last output pending same e = none_more (λ t. IsEnding model pending start left t given) taken
        (record {
          reader = reader;
          end = end;
          accepted = (items, record { reads = e.0; limit = through.after.limit });
          canonical = rw same at e.1;
          read = read;
        })

    -- the end is rejected
    pub refuses_end : (refusal : Refusal) (P : Type 0) → P → SettlesEnd model taken items given (Err refusal)
        → (more : Text) × (IsRefusedBehind start left (taken ++ more) refusal × SettlesTo model (taken ++ more) given × IsReadFor model (taken ++ more) given
        × P)
    refuses_end refusal P p e =
        none_more (λ t. IsRefusedBehind start left t refusal × SettlesTo model t given × IsReadFor model t given × P) taken
        (record { offset = e.1; cause = inl (e.0, reader, end, e.2) }, through_settles model r taken given items through, read, p)

pub consumed_none : (start a b : Known) (taken : Text) → Consumes start a taken → Consumes a b [] → Consumes start b taken
consumed_none start a b taken h g = subst (Consumes start b) (append-nil taken) (Consumes-trans start a b taken [] h g)

-- a text stopped that settles this
pub stops_by : (model : Model) (fault : StreamFault) (s : ByteTransducer) (start left : Known) (taken given : Text)
    → AnswerLeaves model (Some (Err fault)) s start left taken given → StopsBy model fault start left taken given
stops_by model faults.Read s start left taken given h = (h.0, h.1)
stops_by model (faults.Refused refusal) s start left taken given h = (h.0, h.1)

module _ {B : Type 0} (kept failed : B → B → Type 0) where
  -- a result that isn't a fault of the reader
  pub counts_kept : (r : Result (Unit {0}) StreamFault) (old new : B) → IsNoReadFault r → kept old new → CountsDrain kept failed r old new
  counts_kept (Ok done) old new told h = h
  counts_kept (Err faults.Read) old new told h = absurd told
  counts_kept (Err (faults.Refused refusal)) old new told h = h

  -- nothing failed before
  pub fault_later : ((a b c : B) → kept a b → kept b c → kept a c) → ((a b c : B) → kept a b → failed b c → failed a c)
      → (fault : StreamFault) (old mid new : B) → kept old mid → FaultCounts kept failed fault mid new → FaultCounts kept failed fault old new
  fault_later also later faults.Read old mid new h g = later old mid new h g
  fault_later also later (faults.Refused refusal) old mid new h g = also old mid new h g
