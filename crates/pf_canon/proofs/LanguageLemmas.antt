-- Texts of a language that has more items than the profile.
use Rattle.std.proofs.Common.{◌≡◌, ℕ, ◌+◌, ◌*◌, ◌-◌, ◌<◌, ◌≤◌, ◌^◌, Bool, List, [], ◌++◌, drop, inl, inr, length, map, take, refl, sym, ap, ◌∙◌, subst, arith}
use Rattle.std.specs.Prelude.{IfErr, IfOk, MatchResult, Result, Ok, Err, IsTrue, ◌↔◌, flat_map}
use Rattle.std.proofs.Math.Seq.{take-add}
use Rattle.std.proofs.lemmas.List.{append-nil, append_assoc, length-append, length-take, length-take-le}
use Rattle.pf_values.specs.declared.models.Model.{Model}
use Rattle.pf_values.specs.meaning.Canonical.{IsCanonicalOf, IsCanonicalText, item_spelling}
use Rattle.pf_values.specs.meaning.Items.{Byte, IsAccepted, Item, Reads}
use Rattle.pf_values.specs.meaning.Refusals.{IsRefusedAt}
use Rattle.pf_values.specs.meaning.Text.{Text}
use Rattle.pf_values.specs.declared.limits.TheConstants.{MAX_TEXT_LEN}
use Rattle.pf_text.specs.CanonicalRuns.{IsCanonicalRun, silents}
use Rattle.pf_text.specs.FoundDirectives.{BeginsNoItem}
use Rattle.pf_text.specs.Walks.{AreItems, Either, IsItemsEnd, IsMadeOf, IsNormalInEach, IsPiece}
use Rattle.pf_text.proofs.WalkLemmas.{by_pieces, literals_passed, run_is_canonical}
use Rattle.pf_text.specs.declared.refusals.Refusal.{Refusal}
use Rattle.pf_text.specs.declared.refusals.Side.{Side}
use Rattle.pf_text.specs.declared.refusals.Side.TheVariants.{First, Second}
use Rattle.pf_text.specs.declared.refusals.TextFault.{TextFault}
use Rattle.pf_text.specs.declared.refusals.TextFault.TheVariants.{Refused, Memory}
use Rattle.pf_canon.specs.Answers.{FaultForCanonical, IsCanonicalFor}
use Rattle.pf_canon.specs.ChangedDirectives.{between}
use Rattle.pf_canon.specs.Comparison.{AreTextsSame, TextStops}
use Rattle.pf_canon.specs.Languages.{AreSameIn, ComesVerbatim, CompletesIn, DecidesIn, FaultIn, Front, HasCanonicalIn, IsAcceptedIn, IsWrittenIn, Refuses, StopsIn}
use Rattle.pf_canon.specs.Making.{IsVerbatimAfter, IsWritten}
use Rattle.pf_canon.specs.declared.limits.TheConstants.{MAX_DIRECTIVE_LEN}
use Rattle.pf_probes.proofs.Unique.{equivalent_formats_one}
use Rattle.pf_canon.proofs.OneCanonical.{are_same, by_one}
use Rattle.pf_canon.proofs.SomeCanonical.{accepted_canonical}
use Rattle.pf_canon.proofs.ItemLemmas.{Extends}
use Rattle.pf_canon.proofs.TextLemmas.{items_few}
use Rattle.pf_canon.proofs.TransducerLemmas.{ended, most_items}
use Rattle.pf_canon.proofs.WrittenLemmas.{all_written, none_written, run_written}

-- how long the canonical text of a stretch is at most
stretch_few : (model : Model) (t c : Text) → IsCanonicalFor model t c → length c ≤ MAX_DIRECTIVE_LEN * length t
stretch_few model t c h = omega (arith, h.few, most_items h.items, items_few t h.items h.accepted.reads)

-- the bytes up to an offset, and those up to a later one
pub up_to : (t : Text) (at end : ℕ) → at ≤ end → take end t ≡ take at t ++ between at end t
up_to t at end low =
    let place : at + (end - at) ≡ end = omega (arith, low) in
    sym (ap (λ n. take n t) place) ∙ take-add at (end - at) t

pub within_limit : (t : Text) (at : ℕ) → at ≤ MAX_TEXT_LEN → length (take at t) ≤ MAX_TEXT_LEN
within_limit t at few = omega (arith, few, length-take at t)

module _ (has_front : Front) (model : Model) where
  -- how long a canonical text is at most
  pub canonical_few : (t c : Text) → HasCanonicalIn has_front model t c → length c ≤ MAX_DIRECTIVE_LEN * length t
  canonical_few t c h = omega (
    arith,
    h.few,
    ap length h.whole,
    ap length h.split,
    length-append h.front h.last,
    length-append h.out h.own,
    stretch_few model h.last h.own h.ends,
  )

  -- and how long what is written is
  pub written_few : (t out : Text) (held : ℕ) → IsWrittenIn has_front model t out held → length out + 4 * held ≤ MAX_DIRECTIVE_LEN * length t
  written_few t out held h = omega (
    arith,
    h.few,
    ap length h.whole,
    ap length h.split,
    length-append h.front h.last,
    length-append h.before h.own,
    h.ends.short,
    most_items h.ends.items,
    items_few h.last h.ends.items h.ends.reads,
  )

  -- it can be counted
  pub canonical_counts : (t c : Text) → HasCanonicalIn has_front model t c → length c < 2 ^ 128
  canonical_counts t c h = omega (arith, h.limit, canonical_few t c h)

  -- a text of one stretch
  pub one_stretch : has_front model [] [] → (t c : Text) → IsCanonicalFor model t c → HasCanonicalIn has_front model t c
  one_stretch none t c h = record {
    front = [];
    last = t;
    out = [];
    own = c;
    split = refl;
    begins = none;
    ends = h;
    whole = refl;
    limit = h.accepted.limit;
    few = omega arith;
  }

  -- what is held is put
  pub all_put : (t out : Text) (held : ℕ) → length t ≤ MAX_TEXT_LEN → IsWrittenIn has_front model t out held
      → HasCanonicalIn has_front model t (out ++ flat_map item_spelling (silents held))
  all_put t out held limit h =
      let rest = flat_map item_spelling (silents held) in
      let short : length h.last ≤ MAX_TEXT_LEN = omega (arith, limit, ap length h.split, length-append h.front h.last) in
      record {
        front = h.front;
        last = h.last;
        out = h.before;
        own = h.own ++ rest;
        split = h.split;
        begins = h.begins;
        ends = all_written model h.last h.own held short h.ends;
        whole = ap (λ u. u ++ rest) h.whole ∙ append_assoc h.before h.own rest;
        limit = limit;
        few = h.few;
      }

  -- so a stretch completes the canonical text
  pub completed : (t more : Text) (held : ℕ) → ((before out : Text) → IsWrittenIn has_front model before out 0
      → IsWrittenIn has_front model (before ++ t) (out ++ more) held) → CompletesIn has_front model t (more ++ flat_map item_spelling (silents held))
  completed t more held step before out h limit = subst (HasCanonicalIn has_front model (before ++ t))
      (append_assoc out more (flat_map item_spelling (silents held)))
      (all_put (before ++ t) (out ++ more) held limit (step before out h))

  -- items of the profile come after what is written
  pub extends_in : Extends model (IsWrittenIn has_front model)
  extends_in t put held still step before out h = record {
    front = h.front;
    last = h.last ++ t;
    before = h.before;
    own = h.own ++ put;
    split = ap (λ u. u ++ t) h.split ∙ append_assoc h.front h.last t;
    begins = h.begins;
    ends = step h.last h.own h.ends;
    whole = ap (λ u. u ++ put) h.whole ∙ append_assoc h.before h.own put;
    few = h.few;
  }

  -- nothing is written of the stretch after a front
  pub front_written : (t out : Text) → has_front model t out → length out ≤ MAX_DIRECTIVE_LEN * length t → IsWrittenIn has_front model t out 0
  front_written t out begins few = record {
    front = t;
    last = [];
    before = out;
    own = [];
    split = sym (append-nil t);
    begins = begins;
    ends = none_written model;
    whole = sym (append-nil out);
    few = few;
  }

  -- and nothing was read yet
  pub nothing_read : has_front model [] [] → (t : Text) (at : ℕ) → at ≡ 0 → IsWrittenIn has_front model (take at t) [] 0
  nothing_read none t at start =
      subst (λ n. IsWrittenIn has_front model (take n t) [] 0) (sym start) (front_written [] [] none (omega arith))

  -- a stretch at the beginning of a text
  pub of_nothing : has_front model [] [] → (t u own : Text) → t ≡ u → length u ≤ MAX_TEXT_LEN → CompletesIn has_front model t own
      → HasCanonicalIn has_front model u own
  of_nothing none t u own same limit completes = subst (λ v. HasCanonicalIn has_front model v own) same
      (completes [] [] (front_written [] [] none (omega arith)) (omega (arith, limit, ap length same)))

  -- that is verbatim
  pub all_verbatim : has_front model [] [] → (t u : Text) → t ≡ u → length u ≤ MAX_TEXT_LEN → IsVerbatimAfter (IsWrittenIn has_front model) 0 t
      → HasCanonicalIn has_front model u u
  all_verbatim none t u same limit verbatim = subst (HasCanonicalIn has_front model u) (append-nil u)
      (all_put u u 0 limit (subst (λ v. IsWrittenIn has_front model v v 0) same (verbatim [] [] (front_written [] [] none (omega arith)))))

  -- what passes comes as it is
  pub passed_written : (passes : Text → Type 0) → ComesVerbatim has_front passes model → (t : Text) → passes t
      → IsVerbatimAfter (IsWrittenIn has_front model) 0 t
  passed_written passes comes t p before out h =
      let is = (ended model h.last h.own 0 h.ends.items h.ends.reads h.ends.made [] refl).1 in
      let own = subst (IsCanonicalOf model h.last) (append-nil h.own) is in
      let next = comes h.front h.before h.last h.own t h.ends.items h.begins h.ends.reads own p in
      let front : (h.front ++ h.last) ++ t ≡ before ++ t = ap (λ u. u ++ t) (sym h.split) in
      let put : (h.before ++ h.own) ++ t ≡ out ++ t = ap (λ u. u ++ t) (sym h.whole) in
      front_written (before ++ t) (out ++ t) (subst (λ u. has_front model u (out ++ t)) front (subst (has_front model ((h.front ++ h.last) ++ t)) put next))
      (omega (
        arith,
        written_few before out 0 h,
        length-append before t,
        length-append out t,
      ))

  -- and so does a run of that and of canonical items
  module _ (passes : Text → Type 0) (comes : ComesVerbatim has_front passes model) where
    pub run_verbatim : (t : Text) → IsMadeOf (Either (AreItems IsNormalInEach) passes) t → IsVerbatimAfter (IsWrittenIn has_front model) 0 t
    run_verbatim t made before out h =
        by_pieces (Either (AreItems IsNormalInEach) passes) Holds step [] t (rw (append-nil before, append-nil out) h) made where
          Holds : Text → Type 0
          Holds u = IsWrittenIn has_front model (before ++ u) (out ++ u) 0

          together : (u piece : Text) → IsWrittenIn has_front model ((before ++ u) ++ piece) ((out ++ u) ++ piece) 0 → Holds (u ++ piece)
          together u piece g = subst (λ v. IsWrittenIn has_front model v (out ++ (u ++ piece)) 0) (append_assoc before u piece)
              (subst (λ v. IsWrittenIn has_front model ((before ++ u) ++ piece) v 0) (append_assoc out u piece) g)

          after_run : (u piece : Text) (items : List Item) → Holds u → IsCanonicalRun model piece items → Holds (u ++ piece)
          after_run u piece items g run = together u piece (extends_in piece piece 0 0 (λ b o w. run_written model b o piece items w run)
              (before ++ u) (out ++ u) g)

          step : (u piece : Text) → Holds u → IsPiece (Either (AreItems IsNormalInEach) passes) piece → Holds (u ++ piece)
          step u piece g (inl literal) =
              after_run u piece (map Byte piece) g (run_is_canonical model piece (map Byte piece) (literals_passed IsNormalInEach piece literal))
          step u piece g (inr (begins, inl run)) = after_run u piece run.0 g (run_is_canonical model piece run.0 run.1)
          step u piece g (inr (begins, inr p)) = together u piece (passed_written passes comes piece p (before ++ u) (out ++ u) g)

  module _ (t : Text) where
    -- an item comes after a text
    pub item_in : (at stop : ℕ) (c spelling : Text) → HasCanonicalIn has_front model (take at t) c → has_front model (take stop t) (c ++ spelling) → at < stop
        → stop ≤ length t → length spelling ≤ 20 → IsWrittenIn has_front model (take stop t) (c ++ spelling) 0
    item_in at stop c spelling h begins some within short = front_written (take stop t) (c ++ spelling) begins (omega (
      arith,
      canonical_few (take at t) c h,
      length-take at t,
      length-take-le stop t within,
      some,
      short,
      length-append c spelling,
    ))

    -- what comes after a text up to an offset, where that is its end
    module _ (start at : ℕ) (low : start ≤ at) where
      pub more_in : (out more : Text) (held still : ℕ) → IsWrittenIn has_front model (take start t) out held
          → ((before own : Text) → IsWrittenIn has_front model before own held → IsWrittenIn has_front model (before ++ between start at t) (own ++ more) still)
          → IsWrittenIn has_front model (take at t) (out ++ more) still
      more_in out more held still h step =
          subst (λ u. IsWrittenIn has_front model u (out ++ more) still) (sym (up_to t start at low)) (step (take start t) out h)

      pub complete_in : at ≤ MAX_TEXT_LEN → (out more : Text) → IsWrittenIn has_front model (take start t) out 0
          → CompletesIn has_front model (between start at t) more
          → HasCanonicalIn has_front model (take at t) (out ++ more)
      complete_in limit out more h completes =
          let whole = up_to t start at low in
          subst (λ u. HasCanonicalIn has_front model u (out ++ more)) (sym whole)
          (completes (take start t) out h (omega (arith, within_limit t at limit, ap length whole)))

-- a text that goes on so is accepted
pub some_accepted : (has_front : Front) (refuses : Refuses) (model : Model) (t out : Text) (r : Result (Unit {0}) Refusal)
    → MatchResult r (λ done. (more : Text) × HasCanonicalIn has_front model t (out ++ more)) (λ refusal. refuses model t refusal.kind refusal.at)
    → MatchResult r (λ done. IsAcceptedIn has_front model t) (λ refusal. refuses model t refusal.kind refusal.at)
some_accepted has_front refuses model t out (Ok done) (more, h) = (out ++ more, h)
some_accepted has_front refuses model t out (Err refusal) h = h

-- there may be no memory for a text of some bytes
pub hindered : (has_front : Front) (refuses : Refuses) (model : Model) (t c : Text) → HasCanonicalIn has_front model t c
    → 0 < length c → FaultIn has_front refuses model t Memory
hindered has_front refuses model t c h some = (c, h, λ none. absurd (omega (arith, some, ap length none)))

-- the profile has no others
abbrev pub no_front : Front
no_front model front out = (front ≡ []) × (out ≡ [])

module _ (model : Model) where
  -- and passes none
  pub profile_passes : ComesVerbatim no_front (λ t. ⊥) model
  profile_passes front out last own passed items begins reads is none = absurd none

  -- what is written in it is written as in a language
  in_profile : (t out : Text) (held : ℕ) → IsWritten model t out held → IsWrittenIn no_front model t out held
  in_profile t out held h = record {
    front = [];
    last = t;
    before = [];
    own = out;
    split = refl;
    begins = (refl, refl);
    ends = h;
    whole = refl;
    few = omega arith;
  }

  from_profile : (t out : Text) (held : ℕ) → IsWrittenIn no_front model t out held → IsWritten model t out held
  from_profile t out held h =
      let last : h.last ≡ t = sym (h.split ∙ ap (λ u. u ++ h.last) h.begins.0) in
      let own : h.own ≡ out = sym (h.whole ∙ ap (λ u. u ++ h.own) h.begins.1) in
      subst (λ u. IsWritten model u out held) last (subst (λ u. IsWritten model h.last u held) own h.ends)

  -- so what is put in one is put in the other
  pub profile_step : (t more : Text) (held still : ℕ)
      → ((before out : Text) → IsWrittenIn no_front model before out held → IsWrittenIn no_front model (before ++ t) (out ++ more) still)
      → (before out : Text) → IsWritten model before out held → IsWritten model (before ++ t) (out ++ more) still
  profile_step t more held still step before out h =
      from_profile (before ++ t) (out ++ more) still (step before out (in_profile before out held h))

module _ (model : Model) (t : Text) where
  pub of_profile : (c : Text) → HasCanonicalIn no_front model t c → IsCanonicalFor model t c
  of_profile c h =
      let last : h.last ≡ t = sym (h.split ∙ ap (λ u. u ++ h.last) h.begins.0) in
      let own : h.own ≡ c = sym (h.whole ∙ ap (λ u. u ++ h.own) h.begins.1) in
      subst (λ u. IsCanonicalFor model u c) last (subst (IsCanonicalFor model h.last) own h.ends)

  -- items end where none begins
  pub ends_items : (at : ℕ) (c : Text) → at ≤ length t → BeginsNoItem (drop at (take MAX_TEXT_LEN t))
      → HasCanonicalIn no_front model (take at t) c → IsItemsEnd t at
  ends_items at c within none h =
      let last : h.last ≡ take at t = sym (h.split ∙ ap (λ u. u ++ h.last) h.begins.0) in
      record {
        within = within;
        few = omega (arith, h.limit, length-take-le at t within);
        items = h.ends.items;
        reads = subst (λ u. Reads u h.ends.items) last h.ends.accepted.reads;
        last = none;
      }

  pub fault_of_profile : (fault : TextFault) → FaultIn no_front (λ model. IsRefusedAt) model t fault → FaultForCanonical model t fault
  fault_of_profile (Refused refusal) h = h
  fault_of_profile Memory h = (h.0, of_profile h.0 h.1, h.2)

  pub answer_of_profile : {V : Type 0} (of : V → Text) (r : Result V TextFault)
      → MatchResult r (λ c. HasCanonicalIn no_front model t (of c)) (FaultIn no_front (λ model. IsRefusedAt) model t)
      → MatchResult r (λ c. IsCanonicalFor model t (of c)) (FaultForCanonical model t)
  answer_of_profile of (Ok c) h = of_profile (of c) h
  answer_of_profile of (Err fault) h = fault_of_profile fault h

module _ (model : Model) (t : Text) where
  pub len_of_profile : (r : Result ℕ Refusal)
      → MatchResult r (λ len. (c : Text) × HasCanonicalIn no_front model t c × (len ≡ length c)) (λ refusal. IsRefusedAt t refusal.kind refusal.at)
      → MatchResult r (λ len. (c : Text) × IsCanonicalFor model t c × (len ≡ length c)) (λ refusal. IsRefusedAt t refusal.kind refusal.at)
  len_of_profile (Ok len) h = (h.0, of_profile model t h.0 h.1, h.2)
  len_of_profile (Err refusal) h = h

  decided : (is : Bool) → DecidesIn no_front model t is → IsAccepted t × (IsTrue is ↔ IsCanonicalText model t)
  decided is h =
      let own = of_profile model t h.0 h.1 in (
        (own.items, own.accepted),
        (λ yes. subst (IsCanonicalText model) (h.2.0 yes) own.canonical_is.canonical, λ canonical. h.2.1 (own.kept canonical)),
      )

  pub decided_of_profile : (r : Result Bool Refusal) → MatchResult r (DecidesIn no_front model t) (λ refusal. IsRefusedAt t refusal.kind refusal.at)
      → IfOk r (λ is. IsAccepted t × (IsTrue is ↔ IsCanonicalText model t)) × IfErr r (λ refusal. IsRefusedAt t refusal.kind refusal.at)
  decided_of_profile (Ok is) h = (decided is h, tt)
  decided_of_profile (Err refusal) h = (tt, h)

-- what is known of a text of the profile
module _ (has_front : Front) (model : Model) (none : has_front model [] []) where
  pub same_in : (t u : Text) (is : Bool) → AreTextsSame model t u is → AreSameIn has_front model t u is
  same_in t u is h =
      let (c, one) = accepted_canonical model t h.first in
      let (d, other) = accepted_canonical model u h.second in
      record {
        first = c;
        second = d;
        of_first = one_stretch has_front model none t c one;
        of_second = one_stretch has_front model none u d other;
        one = (
          λ yes. equivalent_formats_one model t u c d (h.same.0 yes) one.canonical_is other.canonical_is,
          λ same. h.same.1 (by_one model t u (c, one.canonical_is, subst (IsCanonicalOf model u) (sym same) other.canonical_is)),
        );
      }

module _ (model : Model) (t u : Text) where
  -- what is said of two texts in the profile
  pub same_of_profile : (is : Bool) → AreSameIn no_front model t u is → AreTextsSame model t u is
  same_of_profile is h =
      let one = of_profile model t h.first h.of_first in
      let other = of_profile model u h.second h.of_second in
      are_same model t u is (
        λ yes. by_one model t u (h.first, one.canonical_is, subst (IsCanonicalOf model u) (sym (h.one.0 yes)) other.canonical_is),
        λ e. h.one.1 (equivalent_formats_one model t u h.first h.second e one.canonical_is other.canonical_is),
      ) (one.items, one.accepted) (other.items, other.accepted) (h.first, one.canonical_is) (h.second, other.canonical_is)

  stops_of_profile : (side : Side) (refusal : Refusal) → StopsIn no_front (λ model. IsRefusedAt) model t u (side, refusal) → TextStops t u (side, refusal)
  stops_of_profile First refusal h = h
  stops_of_profile Second refusal h =
      let one = of_profile model t h.0.0 h.0.1 in
      ((one.items, one.accepted), h.1)

  pub compared_of_profile : (r : Result Bool (Side × Refusal))
      → MatchResult r (AreSameIn no_front model t u) (StopsIn no_front (λ model. IsRefusedAt) model t u)
      → MatchResult r (AreTextsSame model t u) (TextStops t u)
  compared_of_profile (Ok is) h = same_of_profile is h
  compared_of_profile (Err stop) h = stops_of_profile stop.0 stop.1 h
