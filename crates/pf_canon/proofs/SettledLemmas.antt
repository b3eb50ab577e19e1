-- What the items of a language settle where they are read, not put.
use Rattle.std.proofs.Common.{◌≡◌, ℕ, ◌*◌, ◌≤◌, [], ◌∷◌, ◌++◌, length, take, refl, sym, ap, ◌∙◌, subst, arith, inl, inr}
use Rattle.std.specs.Prelude.{flat_map, map}
use Rattle.std.proofs.lemmas.List.{append-nil, append_assoc, length-append}
use Rattle.pf_values.specs.declared.limits.TheConstants.{MAX_TEXT_LEN}
use Rattle.pf_values.specs.declared.models.Model.{Model}
use Rattle.pf_values.specs.meaning.Canonical.{item_spelling}
use Rattle.pf_values.specs.meaning.Items.{Byte}
use Rattle.pf_values.specs.meaning.Text.{Text}
use Rattle.pf_text.specs.CanonicalRuns.{silents}
use Rattle.pf_text.specs.History.{IsLiteral}
use Rattle.pf_text.specs.Walks.{AreRead, Either, IsMadeOf, IsPiece}
use Rattle.pf_text.proofs.LiteralLemmas.{Reads-literals}
use Rattle.pf_text.proofs.WalkLemmas.{by_pieces}
use Rattle.pf_canon.specs.ChangedDirectives.{between}
use Rattle.pf_canon.specs.Languages.{ComesVerbatim, Front, GoesOnIn, HasCanonicalIn, IsWrittenIn}
use Rattle.pf_canon.specs.declared.limits.TheConstants.{MAX_DIRECTIVE_LEN}
use Rattle.pf_canon.proofs.LanguageLemmas.{front_written, up_to, within_limit}
use Rattle.pf_canon.proofs.OutputLemmas.{length-silents}
use Rattle.pf_canon.proofs.SomeCanonical.{IsSettled, start_settled, settled_byte, settled_canonical, settled_more, settled_of, settled_whole}
use Rattle.pf_canon.proofs.TextLemmas.{items_few}
use Rattle.pf_canon.proofs.TransducerLemmas.{most_items}

module _ (has_front : Front) (model : Model) where
  -- the same after a front
  pub record IsSettledIn (t out : Text) (held : ℕ) : Type 0 where
    pub front : Text
    pub last : Text
    pub before : Text
    pub own : Text
    pub split : t ≡ front ++ last
    pub begins : has_front model front before
    pub ends : IsSettled model last own held
    pub whole : out ≡ before ++ own
    pub few : length before ≤ MAX_DIRECTIVE_LEN * length front

  pub settled_in : (t out : Text) (held : ℕ) → IsWrittenIn has_front model t out held → IsSettledIn t out held
  settled_in t out held h = record {
    front = h.front;
    last = h.last;
    before = h.before;
    own = h.own;
    split = h.split;
    begins = h.begins;
    ends = settled_of model h.last h.own held h.ends;
    whole = h.whole;
    few = h.few;
  }

  -- all of a text
  pub in_whole : (t out : Text) (held : ℕ) → length t ≤ MAX_TEXT_LEN → IsSettledIn t out held
      → HasCanonicalIn has_front model t (out ++ flat_map item_spelling (silents held))
  in_whole t out held limit h =
      let rest = flat_map item_spelling (silents held) in
      let short : length h.last ≤ MAX_TEXT_LEN = omega (arith, limit, ap length h.split, length-append h.front h.last) in
      record {
        front = h.front;
        last = h.last;
        out = h.before;
        own = h.own ++ rest;
        split = h.split;
        begins = h.begins;
        ends = settled_whole model h.last h.own held short h.ends;
        whole = ap (λ u. u ++ rest) h.whole ∙ append_assoc h.before h.own rest;
        limit = limit;
        few = h.few;
      }

  -- an ordinary character
  pub in_byte : (t out : Text) (held byte : ℕ) → IsSettledIn t out held → IsLiteral byte → IsSettledIn (t ++ byte ∷ []) (out ++ byte ∷ []) held
  in_byte t out held byte h literal = record {
    front = h.front;
    last = h.last ++ byte ∷ [];
    before = h.before;
    own = h.own ++ byte ∷ [];
    split = ap (λ u. u ++ byte ∷ []) h.split ∙ append_assoc h.front h.last (byte ∷ []);
    begins = h.begins;
    ends = settled_byte model h.last h.own held byte h.ends literal;
    whole = ap (λ u. u ++ byte ∷ []) h.whole ∙ append_assoc h.before h.own (byte ∷ []);
    few = h.few;
  }

  -- items of the profile
  in_read : (t out : Text) (held : ℕ) (u : Text) → IsSettledIn t out held → AreRead u → (more : Text) × (still : ℕ) × IsSettledIn (t ++ u) (out ++ more) still
  in_read t out held u h (items, reads) =
      let (more, still, ends) = settled_more model h.last h.own held u items h.ends reads in (
        more,
        still,
        record {
          front = h.front;
          last = h.last ++ u;
          before = h.before;
          own = h.own ++ more;
          split = ap (λ v. v ++ u) h.split ∙ append_assoc h.front h.last u;
          begins = h.begins;
          ends = ends;
          whole = ap (λ v. v ++ more) h.whole ∙ append_assoc h.before h.own more;
          few = h.few;
        },
      )

  module _ (passes : Text → Type 0) (comes : ComesVerbatim has_front passes model) where
    -- what passes
    in_passed : (t out : Text) (held : ℕ) (u : Text) → IsSettledIn t out held → passes u → (more : Text) × (still : ℕ)
        × IsSettledIn (t ++ u) (out ++ more) still
    in_passed t out held u h p =
        let rest = flat_map item_spelling (silents held) in
        let own = h.own ++ rest in
        let next = comes h.front h.before h.last own u h.ends.items h.begins h.ends.reads (settled_canonical model h.last h.own held h.ends) p in
        let front : (h.front ++ h.last) ++ u ≡ t ++ u = ap (λ v. v ++ u) (sym h.split) in
        let put : (h.before ++ own) ++ u ≡ out ++ (rest ++ u) =
        ap (λ v. v ++ u) (sym (append_assoc h.before h.own rest) ∙ ap (λ v. v ++ rest) (sym h.whole)) ∙ append_assoc out rest u in (
          rest ++ u,
          0,
          record {
            front = t ++ u;
            last = [];
            before = out ++ (rest ++ u);
            own = [];
            split = sym (append-nil (t ++ u));
            begins = subst (λ v. has_front model v (out ++ (rest ++ u))) front (subst (has_front model ((h.front ++ h.last) ++ u)) put next);
            ends = start_settled model;
            whole = sym (append-nil (out ++ (rest ++ u)));
            few = omega (
              arith,
              h.few,
              h.ends.short,
              most_items h.ends.items,
              items_few h.last h.ends.items h.ends.reads,
              ap length h.whole,
              ap length h.split,
              length-append h.before h.own,
              length-append h.front h.last,
              length-append t u,
              length-append out (rest ++ u),
              length-append rest u,
              length-silents held,
            );
          },
        )

    -- all of them
    pub in_made : (t out : Text) (held : ℕ) (u : Text) → IsSettledIn t out held → IsMadeOf (Either AreRead passes) u
        → (more : Text) × (still : ℕ) × IsSettledIn (t ++ u) (out ++ more) still
    in_made t out held u h made = by_pieces (Either AreRead passes) Holds step [] u (
      [],
      held,
      subst (λ v. IsSettledIn v (out ++ []) held) (sym (append-nil t))
          (subst (λ v. IsSettledIn t v held) (sym (append-nil out)) h),
    ) made where
      Holds : Text → Type 0
      Holds v = (more : Text) × (still : ℕ) × IsSettledIn (t ++ v) (out ++ more) still

      together : (before piece more next : Text) (still : ℕ) → IsSettledIn ((t ++ before) ++ piece) ((out ++ more) ++ next) still → Holds (before ++ piece)
      together before piece more next still g = (
        more ++ next,
        still,
        subst (λ v. IsSettledIn v (out ++ (more ++ next)) still) (append_assoc t before piece)
            (subst (λ v. IsSettledIn ((t ++ before) ++ piece) v still) (append_assoc out more next) g),
      )

      step : (before piece : Text) → Holds before → IsPiece (Either AreRead passes) piece → Holds (before ++ piece)
      step before piece (more, held, g) (inl literal) =
          let (next, still, k) = in_read (t ++ before) (out ++ more) held piece g (map Byte piece, Reads-literals piece [] [] refl literal) in
          together before piece more next still k
      step before piece (more, held, g) (inr (begins, inl read)) =
          let (next, still, k) = in_read (t ++ before) (out ++ more) held piece g read in together before piece more next still k
      step before piece (more, held, g) (inr (begins, inr p)) =
          let (next, still, k) = in_passed (t ++ before) (out ++ more) held piece g p in together before piece more next still k

    -- so a text goes on
    settled_goes_on : (t out : Text) (held : ℕ) → IsSettledIn t out held → GoesOnIn has_front passes model t out
    settled_goes_on t out held h u made limit =
        let (more, still, all) = in_made t out held u h made in
        let rest = flat_map item_spelling (silents still) in (
          more ++ rest,
          subst (HasCanonicalIn has_front model (t ++ u)) (append_assoc out more rest) (in_whole (t ++ u) (out ++ more) still limit all),
        )

    pub goes_on : (t out : Text) (held : ℕ) → IsWrittenIn has_front model t out held → GoesOnIn has_front passes model t out
    goes_on t out held h = settled_goes_on t out held (settled_in t out held h)

    -- also a front that is such items
    pub made_goes_on : has_front model [] [] → (t : Text) (at front : ℕ) → at ≡ front → IsMadeOf (Either AreRead passes) (take front t)
        → (out : Text) × GoesOnIn has_front passes model (take at t) out
    made_goes_on none t at front e made =
        let start = settled_in [] [] 0 (front_written has_front model [] [] none (omega arith)) in
        let (out, held, h) = in_made [] [] 0 (take at t) start (subst (λ n. IsMadeOf (Either AreRead passes) (take n t)) (sym e) made) in
        (out, settled_goes_on (take at t) out held h)

    -- and one up to an offset goes on to another
    pub goes_on_to : (t : Text) (start at : ℕ) → start ≤ at → at ≤ MAX_TEXT_LEN → (out : Text) → GoesOnIn has_front passes model (take start t) out
        → IsMadeOf (Either AreRead passes) (between start at t) → (more : Text) × HasCanonicalIn has_front model (take at t) (out ++ more)
    goes_on_to t start at low limit out h made =
        let whole = up_to t start at low in
        let (more, all) = h (between start at t) made (omega (arith, within_limit t at limit, ap length whole)) in
        (more, subst (λ u. HasCanonicalIn has_front model u (out ++ more)) (sym whole) all)
