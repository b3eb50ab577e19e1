-- What holds while a byte transducer takes more of its text.
use Rattle.std.proofs.Common.{◌≡◌, ◌≢◌, ◌≤◌, ◌<◌, ◌∙◌, ℕ, true, false, [], ◌∷◌, ◌++◌, length, Some, Ok, Err, refl, sym, ap, subst, arith}
use Rattle.std.proofs.lemmas.List.{append-nil, append_assoc, length-append}
use Rattle.pf_values.specs.declared.models.Model.{Model}
use Rattle.pf_values.specs.Counting.{Known}
use Rattle.pf_values.specs.meaning.Text.{Text}
use Rattle.pf_canon.specs.declared.faults.StreamFault.{StreamFault}
use Rattle.pf_canon.specs.declared.canonical_bytes.ByteTransducer.{ByteTransducer}
use Rattle.pf_canon.specs.declared.output.PendingOutput.{PendingOutput}
use Rattle.pf_canon.specs.CanonicalBytes.{FaultCounts, FillLeaves, FillsBy, History, IsFilled, StepsBy, WantsByte, pending_in, units}
use Rattle.pf_canon.specs.Comparison.{DrainsTo}
use Rattle.pf_canon.specs.Output.{pending_text}
use Rattle.pf_canon.proofs.ByteTransducerLemmas.{fault_later, given_more, gives, more_later, stops_by}

-- a byte is asked for only where nothing waits
not_filled : (s : ByteTransducer) → WantsByte s → IsFilled s → ⊥
not_filled s asks filled = let both : true ≡ false = sym asks.0 ∙ filled asks.1 in cc

module _ {B : Type 0} (left : B → Known) (kept failed : B → B → Type 0) where
  pub record Runs (old : ByteTransducer) (from : B) (now : ByteTransducer) (to : B) : Type 0 where
    pub next : (model : Model) (start : Known) (taken given : Text) → History model old start (left from) taken given → (more : Text)
        × History model now start (left to) (taken ++ more) given
    pub still : IsFilled old → (now ≡ old) × (to ≡ from)
    pub counts : kept from to
    pub lower : units now ≤ units old

  module _ (also : (a b c : B) → kept a b → kept b c → kept a c) (old now new : ByteTransducer) (from mid to : B) (h : Runs old from now mid)
      (asks : WantsByte now) (less : units new < units now) where
    still_asks : IsFilled old → ⊥
    still_asks filled = not_filled now asks (subst IsFilled (sym (h.still filled).0) filled)

    -- more was taken
    pub continues : (done : Unit {0}) → ((model : Model) (start : Known) (taken given : Text) → History model now start (left mid) taken given → (more : Text)
        × FillLeaves model (Ok done) new start (left to) (taken ++ more) given) → kept mid to → Runs old from new to
    continues done step counts =
        let few = h.lower in
        record {
          next = λ model start taken given is.
              let before = h.next model start taken given is in
              more_later (λ t. History model new start (left to) t given) taken before.0 (step model start (taken ++ before.0) given before.1);
          still = λ filled. absurd (still_asks filled);
          counts = also from mid to h.counts counts;
          lower = omega (arith, less, few);
        }

    -- the text stopped
    pub stops : ((a b c : B) → kept a b → failed b c → failed a c) → (fault : StreamFault)
        → ((model : Model) (start : Known) (taken given : Text) → History model now start (left mid) taken given → (more : Text)
        × FillLeaves model (Err fault) new start (left to) (taken ++ more) given)
        → FaultCounts kept failed fault mid to → FillsBy left kept failed old from (Err fault) new to
    stops later fault step counts =
        let few = h.lower in
        record {
          next = λ model start taken given is.
              let before = h.next model start taken given is in
              more_later (λ t. FillLeaves model (Err fault) new start (left to) t given) taken before.0 (step model start (taken ++ before.0) given before.1);
          filled = tt;
          still = λ filled. absurd (still_asks filled);
          counts = fault_later kept failed also later fault from mid to h.counts counts;
          lower = omega (arith, less, few);
        }

  -- the first byte that waits is given
  pub answers_byte : (old mid : ByteTransducer) (from to : B) (done : Unit {0}) (p : PendingOutput) (byte : ℕ)
      → FillsBy left kept failed old from (Ok done) mid to → pending_in mid ≡ byte ∷ pending_text p
      → StepsBy left kept failed old from (Some (Ok byte)) (record mid { pending = p }) to
  answers_byte old mid from to done p byte f e = record {
    next = λ model start taken given h.
        let k = f.next model start taken given h in
        (k.0, gives model mid.is_open mid.transducer _ _ start _ (taken ++ k.0) given byte e k.1);
    over = λ o. absurd (let both : byte ∷ pending_text p ≡ [] = sym e ∙ ap pending_in (f.still (λ _. o.0)).1 ∙ o.1 in cc);
    counts = f.counts;
  }

longer : (given pending rest : Text) → pending ≢ [] → length given < length (given ++ (pending ++ rest))
longer given [] rest some = absurd (some refl)
longer given (byte ∷ pending) rest some = omega (arith, length-append given (byte ∷ (pending ++ rest)))

-- What is settled is given, and of it this is known to have been `given` first, and then what waited.
pub record DrainsOn (model : Model) (old now : ByteTransducer) (start left : Known) (given : Text) : Type 0 where
  pub taken : Text
  pub later : Text
  pub rest : Text
  pub history : History model now start left taken later
  pub whole : later ++ pending_in now ≡ given ++ (pending_in old ++ rest)
  pub ended : old.is_open ≡ false → rest ≡ []

module _ (model : Model) (old now new : ByteTransducer) (start b c : Known) (given : Text) (p : PendingOutput) (none : pending_text p ≡ [])
    (h : DrainsOn model old now start b given) (closed : old.is_open ≡ false → now.is_open ≡ false) (going : now.is_open ≡ true) where
  still_going : old.is_open ≡ false → ⊥
  still_going before = let both : true ≡ false = sym going ∙ closed before in cc

  -- all that waited was given
  cleared : History model (record now { pending = p }) start b h.taken (h.later ++ pending_in now)
  cleared = given_more model now.is_open now.transducer (pending_in now) (pending_in now) (pending_text p) start b h.taken h.later
      (sym (append-nil (pending_in now)) ∙ ap (λ t. pending_in now ++ t) (sym none)) h.history

  -- more was taken
  pub drains_on : (done : Unit {0}) → ((taken given : Text) → History model (record now { pending = p }) start b taken given → (more : Text)
      × FillLeaves model (Ok done) new start c (taken ++ more) given) → DrainsOn model old new start c given
  drains_on done step =
      let k = step h.taken (h.later ++ pending_in now) cleared in
      let w = pending_in old in
      let x = pending_in new in
      record {
        taken = h.taken ++ k.0;
        later = h.later ++ pending_in now;
        rest = h.rest ++ x;
        history = k.1;
        whole = ap (λ t. t ++ x) h.whole ∙ append_assoc given (w ++ h.rest) x ∙ ap (λ t. given ++ t) (append_assoc w h.rest x);
        ended = λ before. absurd (still_going before);
      }

  -- the text stopped
  pub drain_stops : IsFilled old → (fault : StreamFault) → ((taken given : Text) → History model (record now { pending = p }) start b taken given
      → (more : Text) × FillLeaves model (Err fault) new start c (taken ++ more) given) → DrainsTo model (pending_in old) start c given (Err fault)
  drain_stops filled fault step =
      let k = step h.taken (h.later ++ pending_in now) cleared in (
        h.taken ++ k.0,
        h.later ++ pending_in now,
        stops_by model fault new start c (h.taken ++ k.0) (h.later ++ pending_in now) k.1,
        subst (λ t. length given < length t) (sym h.whole) (longer given (pending_in old) h.rest (λ none. still_going (filled none))),
      )
