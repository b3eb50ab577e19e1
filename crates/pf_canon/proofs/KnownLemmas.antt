-- Texts that are known to be canonical, or known not to be.
use Rattle.std.proofs.Common.{◌≡◌, ◌≢◌, ℕ, ◌+◌, ◌-◌, ◌≤◌, Bool, true, false, Some, None, List, [], ◌∷◌, ◌++◌, length, map, take, drop, refl, sym, ap, ◌∙◌, subst, inl, inr, arith}
use Rattle.std.specs.Prelude.{MatchOption, Option, ⊤}
use Rattle.std.specs.List.{AllByRecursion}
use Rattle.std.proofs.Math.Seq.{take-add}
use Rattle.std.proofs.lemmas.List.{append_assoc, append_cancel_left, append-nil, length-append, take-append-drop}
use Rattle.pf_values.specs.declared.limits.TheConstants.{MAX_TEXT_LEN}
use Rattle.pf_values.specs.declared.models.Model.{Model}
use Rattle.pf_values.specs.meaning.Canonical.{AreCanonical, IsCanonicalText}
use Rattle.pf_values.specs.meaning.Items.{Item, Byte, Directive, IsAccepted, IsReadAs, Reads}
use Rattle.pf_values.specs.meaning.Normal.{IsNormal, silent}
use Rattle.pf_values.specs.meaning.Specification.{Specification}
use Rattle.pf_values.specs.meaning.Spelling.{spelling_of}
use Rattle.pf_values.specs.meaning.Text.{Text}
use Rattle.pf_text.specs.CanonicalRuns.{IsCanonicalItem, IsCanonicalRun}
use Rattle.pf_text.specs.Walks.{AreItems, AreRead, Either, IsMadeOf, IsNormalInEach, IsPiece}
use Rattle.pf_text.proofs.CanonicalRunLemmas.{Reads-append, Reads-canonical, run_append}
use Rattle.pf_text.proofs.Texts.{Reads-unique}
use Rattle.pf_text.proofs.WalkLemmas.{by_pieces, literals_passed, run_is_canonical}
use Rattle.pf_probes.proofs.Unique.{own_canonical}
use Rattle.pf_canon.specs.ChangedDirectives.{between}
use Rattle.pf_canon.specs.Languages.{ComesVerbatim, DecidesIn, Front}
use Rattle.pf_canon.proofs.CanonicalItems.{canonical-back}
use Rattle.pf_canon.proofs.SomeCanonical.{accepted_canonical}
use Rattle.pf_canon.proofs.WrittenLemmas.{verbatim_canonical}

module _ (model : Model) where
  all_canonical : (items : List Item) → AllByRecursion (IsCanonicalItem model) items → AreCanonical model items
  all_canonical [] h = tt
  all_canonical (Byte byte ∷ items) h = all_canonical items h.1
  all_canonical (Directive s ∷ items) h = (inl h.0, all_canonical items h.1)

  run_reads : (t : Text) (items : List Item) → IsCanonicalRun model t items → Reads t items
  run_reads t items h = Reads-canonical model [] t [] items refl h

  -- a run is canonical
  run_canonical : (t : Text) (items : List Item) → IsCanonicalRun model t items → IsCanonicalText model t
  run_canonical t items h = (items, record { reads = run_reads t items h; canonical = all_canonical items h.canonical; whole = h.whole })

  -- a text isn't canonical with a directive after a run that isn't normal
  other_taken : (last bytes rest : Text) (items : List Item) (d : Specification) → IsCanonicalRun model last items → IsReadAs bytes (Directive d)
      → ¬ IsNormal model d → d ≢ silent → (more : AreRead rest) → AreRead (last ++ (bytes ++ rest)) × ¬ IsCanonicalText model (last ++ (bytes ++ rest))
  other_taken last bytes rest items d h read other seen (more, reads) =
      let whole : Reads (last ++ (bytes ++ rest)) (items ++ Directive d ∷ more) =
      Reads-append last (bytes ++ rest) items (Directive d ∷ more) (run_reads last items h) (bytes, rest, read, reads, refl) in (
        (items ++ Directive d ∷ more, whole),
        λ c.
            let same : c.0 ≡ items ++ Directive d ∷ more = Reads-unique (last ++ (bytes ++ rest)) c.0 _ c.1.reads whole in
            let back = canonical-back model items (Directive d ∷ more) (subst (AreCanonical model) same c.1.canonical) in
            elim back.0 [ inl normal ↦ absurd (other normal) | inr is_silent ↦ absurd (seen is_silent.0) ],
      )

module _ (has_front : Front) (model : Model) where
  -- a text is its own canonical text: a front that is, and a run
  pub record IsKeptIn (t : Text) : Type 0 where
    pub front : Text
    pub last : Text
    pub items : List Item
    pub split : t ≡ front ++ last
    pub begins : has_front model front front
    pub canonical : IsCanonicalRun model last items

  pub none_kept : has_front model [] [] → IsKeptIn []
  none_kept none = record { front = []; last = []; items = []; split = refl; begins = none; canonical = record { canonical = tt; whole = refl } }

  run_kept : (before t : Text) (more : List Item) → IsKeptIn before → IsCanonicalRun model t more → IsKeptIn (before ++ t)
  run_kept before t more h run = record {
    front = h.front;
    last = h.last ++ t;
    items = h.items ++ more;
    split = ap (λ u. u ++ t) h.split ∙ append_assoc h.front h.last t;
    begins = h.begins;
    canonical = run_append model h.last t h.items more h.canonical run;
  }

  -- a normal directive follows
  pub directive_kept : (before bytes : Text) (d : Specification) → IsKeptIn before → IsNormal model d → spelling_of d ≡ bytes → IsKeptIn (before ++ bytes)
  directive_kept before bytes d h normal spelled =
      run_kept before bytes (Directive d ∷ []) h (record { canonical = (normal, tt); whole = sym spelled ∙ sym (append-nil (spelling_of d)) })

  -- or what a walk passes
  module _ (passes : Text → Type 0) (comes : ComesVerbatim has_front passes model) where
    pub made_kept : (before t : Text) → IsKeptIn before → IsMadeOf (Either (AreItems IsNormalInEach) passes) t → IsKeptIn (before ++ t)
    made_kept before t h made = by_pieces (Either (AreItems IsNormalInEach) passes) IsKeptIn step before t h made where
      step : (before piece : Text) → IsKeptIn before → IsPiece (Either (AreItems IsNormalInEach) passes) piece → IsKeptIn (before ++ piece)
      step before piece h (inl literal) =
          run_kept before piece (map Byte piece) h (run_is_canonical model piece (map Byte piece) (literals_passed IsNormalInEach piece literal))
      step before piece h (inr (begins, inl run)) = run_kept before piece run.0 h (run_is_canonical model piece run.0 run.1)
      step before piece h (inr (begins, inr p)) =
          let own = own_canonical model h.last (run_canonical model h.last h.items h.canonical) in
          let next = comes h.front h.front h.last h.last piece h.items h.begins (run_reads model h.last h.items h.canonical) own p in
          let front : (h.front ++ h.last) ++ piece ≡ before ++ piece = ap (λ u. u ++ piece) (sym h.split) in
          record {
            front = before ++ piece;
            last = [];
            items = [];
            split = sym (append-nil (before ++ piece));
            begins = subst (λ u. has_front model u u) front next;
            canonical = record { canonical = tt; whole = refl };
          }

  -- all of a text
  pub all_kept : (t : Text) → length t ≤ MAX_TEXT_LEN → IsKeptIn t → DecidesIn has_front model t true
  all_kept t short h = (
    t,
    record {
      front = h.front;
      last = h.last;
      out = h.front;
      own = h.last;
      split = h.split;
      begins = h.begins;
      ends = verbatim_canonical model h.last h.items (omega (arith, short, ap length h.split, length-append h.front h.last)) h.canonical;
      whole = h.split;
      limit = short;
      few = omega arith;
    },
    (λ yes. refl, λ same. refl),
  )

  -- a text isn't kept with a directive that isn't normal
  pub other_kept : (before bytes rest : Text) (d : Specification) → IsKeptIn before → IsReadAs bytes (Directive d) → ¬ IsNormal model d → d ≢ silent
      → length (before ++ (bytes ++ rest)) ≤ MAX_TEXT_LEN → IsAccepted rest → DecidesIn has_front model (before ++ (bytes ++ rest)) false
  other_kept before bytes rest d h read other seen short (more, accepted) =
      let last = h.last ++ (bytes ++ rest) in
      let split : before ++ (bytes ++ rest) ≡ h.front ++ last = ap (λ u. u ++ (bytes ++ rest)) h.split ∙ append_assoc h.front h.last (bytes ++ rest) in
      let (read_all, unlike) = other_taken model h.last bytes rest h.items d h.canonical read other seen (more, accepted.reads) in
      let few : length last ≤ MAX_TEXT_LEN = omega (arith, short, ap length split, length-append h.front last) in
      let (own, is) = accepted_canonical model last (read_all.0, record { reads = read_all.1; limit = few }) in (
        h.front ++ own,
        record {
          front = h.front;
          last = last;
          out = h.front;
          own = own;
          split = split;
          begins = h.begins;
          ends = is;
          whole = refl;
          limit = short;
          few = omega arith;
        },
        (
          λ yes. absurd (cc),
          λ same.
              let kept : own ≡ last = append_cancel_left h.front own last (same ∙ split) in
              absurd (unlike (subst (IsCanonicalText model) kept is.canonical_is.canonical)),
        ),
      )

  -- what is said of a text whose rest may be accepted
  pub other_known : (text rest : Text) (known : Option Bool) → (IsAccepted rest → DecidesIn has_front model text false)
      → MatchOption known ⊤ (λ is. (is ≡ false) × IsAccepted rest) → MatchOption known ⊤ (DecidesIn has_front model text)
  other_known text rest None other h = tt
  other_known text rest (Some is) other h = subst (DecidesIn has_front model text) (sym h.0) (other h.1)

-- the bytes up to an offset, those up to another, and the rest
pub three_parts : (text : Text) (at stop : ℕ) → at ≤ stop → take at text ++ (between at stop text ++ drop stop text) ≡ text
three_parts text at stop low =
    let place : at + (stop - at) ≡ stop = omega (arith, low) in
    sym (append_assoc (take at text) (between at stop text) (drop stop text))
    ∙ ap (λ u. u ++ drop stop text) (sym (take-add at (stop - at) text) ∙ ap (λ n. take n text) place)
    ∙ take-append-drop stop text

pub two_parts : (text : Text) (at stop : ℕ) → at ≤ stop → take at text ++ between at stop text ≡ take stop text
two_parts text at stop low =
    let place : at + (stop - at) ≡ stop = omega (arith, low) in
    sym (take-add at (stop - at) text) ∙ ap (λ n. take n text) place
