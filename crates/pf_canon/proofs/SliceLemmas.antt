-- The bytes that canonical slices give.
use Rattle.std.proofs.Common.{Some, None, Result, Ok, Err, List, ◌≡◌, ◌+◌, ◌*◌, ◌-◌, ◌<◌, ◌≤◌, ◌^◌, ℕ, min, [], ◌∷◌, ◌++◌, length, take, drop, refl, sym, ap, ◌∙◌, subst, arith, inl, inr}
use Rattle.std.specs.Prelude.{MatchResult, flat_map}
use Rattle.std.proofs.Math.Seq.{drop-append-add, drop-length}
use Rattle.std.proofs.lemmas.Bool.{cases_lt}
use Rattle.std.proofs.lemmas.List.{append-nil, append_assoc, drop-append-le, length-append, length-drop, length-take, length-take-le, take-append-drop, take_all}
use Rattle.pf_values.specs.declared.limits.TheConstants.{MAX_TEXT_LEN}
use Rattle.pf_values.specs.declared.models.Model.{Model}
use Rattle.pf_values.specs.meaning.Canonical.{item_spelling}
use Rattle.pf_values.specs.meaning.Items.{Directive, IsReadAs, Item}
use Rattle.pf_values.specs.meaning.Text.{Text}
use Rattle.pf_text.specs.CanonicalRuns.{silents}
use Rattle.pf_text.specs.FoundDirectives.{IsFoundAt}
use Rattle.pf_text.specs.Walks.{IsWalkOver}
use Rattle.pf_text.specs.declared.refusals.Refusal.{Refusal}
use Rattle.pf_text.specs.declared.specification.FoundDirective.{FoundDirective}
use Rattle.pf_text.specs.declared.walk.Walk.{Walk}
use Rattle.pf_text.proofs.CanonicalRunLemmas.{take_front}
use Rattle.pf_text.proofs.ReadingLemmas.{moved_over}
use Rattle.pf_canon.specs.ChangedDirectives.{between}
use Rattle.pf_canon.specs.CanonicalSlices.{AreSlices, IsMidway, IsPlaceIn, IsTakenWhole, SlicesHaveGiven, SlicesHaveGivenBy, pending_of}
use Rattle.pf_canon.specs.Comparison.{AreCommon}
use Rattle.pf_canon.specs.Languages.{Front, HasCanonicalIn, IsWrittenIn, Refuses}
use Rattle.pf_canon.specs.Making.{IsMaking, IsVerbatimAfter}
use Rattle.pf_canon.specs.Output.{pending_text}
use Rattle.pf_canon.specs.declared.canonical_slices.CanonicalSlices.{CanonicalSlices}
use Rattle.pf_canon.specs.declared.canonical_slices.Place.{Place}
use Rattle.pf_canon.specs.declared.output.PendingOutput.{PendingOutput}
use Rattle.pf_canon.specs.declared.limits.TheConstants.{MAX_DIRECTIVE_LEN}
use Rattle.pf_canon.proofs.ItemLemmas.{front_of_walk, walk_between}
use Rattle.pf_canon.proofs.LanguageLemmas.{all_put, extends_in, item_in, more_in, within_limit}
use Rattle.pf_canon.proofs.WrittenLemmas.{directive_written}

pub some_given : (given pending : Text) (count : ℕ) → given ++ pending ≡ (given ++ take count pending) ++ drop count pending
some_given given pending count = ap (λ t. given ++ t) (sym (take-append-drop count pending))
    ∙ sym (append_assoc given (take count pending) (drop count pending))

-- of two texts nothing is left
pub none_both : (t u : Text) → t ++ u ≡ [] → (t ≡ []) × (u ≡ [])
none_both [] u e = (refl, e)
none_both (byte ∷ t) u e = absurd (cc)

-- a number of bytes of two texts is left out, from the first as many as it has
pub drop_both : (count first : ℕ) (t u : Text) → first ≡ min count (length t) → drop first t ++ drop (count - first) u ≡ drop count (t ++ u)
drop_both count first t u e = elim (cases_lt count (length t)) [
  | inl less ↦
      let all : first ≡ count = omega (arith, e, less) in
      let none : count - first ≡ 0 = omega (arith, e, less) in
      ap (λ k. drop k t ++ drop (count - first) u) all ∙ ap (λ k. drop count t ++ drop k u) none ∙ sym (drop-append-le count t u (omega (arith, less)))
  | inr more ↦
      let all : first ≡ length t = omega (arith, e, more) in
      let place : count ≡ length t + (count - first) = omega (arith, e, more) in
      ap (λ k. drop k t ++ drop (count - first) u) all ∙ ap (λ v. v ++ drop (count - first) u) (drop-length t)
      ∙ sym (ap (λ k. drop k (t ++ u)) place ∙ drop-append-add t u (count - first))
]

-- what was taken, where nothing is pending
pub midway_of : (has_front : Front) (refuses : Refuses) (model : Model) (w : CanonicalSlices) (text given : Text) → w.end ≡ None → pending_of w ≡ []
    → SlicesHaveGiven has_front refuses model w text given → IsMidway has_front model w.walk w.held text given
midway_of has_front refuses model w text given still none h =
    subst (IsMidway has_front model w.walk w.held text) (ap (λ u. given ++ u) none ∙ append-nil given)
    (subst (λ end. SlicesHaveGivenBy end has_front refuses model w.walk w.held text (given ++ pending_of w)) still h.by)

-- an output is pending after nothing
pub alone : (w : CanonicalSlices) (now : PendingOutput) (bytes : Text) → pending_of w ≡ [] → pending_text now ≡ bytes → w.bytes.now ++ pending_text now ≡ bytes
alone w now bytes none is = ap (λ t. t ++ pending_text now) (none_both w.bytes.now (pending_text w.output) none).0 ∙ is

-- slices have a data model and a text
pub are_slices : (has_front : Front) (refuses : Refuses) (model : Model) (w : CanonicalSlices) (text given : Text)
    → SlicesHaveGiven has_front refuses model w text given
    → AreSlices has_front refuses w
are_slices has_front refuses model w text given h = (
  given,
  subst (λ t. SlicesHaveGiven has_front refuses w.model w t given) (sym h.text_is)
      (subst (λ m. SlicesHaveGiven has_front refuses m w text given) (sym h.model_is) h),
)

module _ (has_front : Front) (refuses : Refuses) (model : Model) (w : CanonicalSlices) (text given : Text) where
  -- the text was at its end
  pub ended_before : (end : Result (Unit {0}) Refusal) → w.end ≡ Some end → SlicesHaveGiven has_front refuses model w text given
      → MatchResult end (λ done. IsTakenWhole has_front model w text given) (λ refusal. refuses model text refusal.kind refusal.at)
  ended_before (Ok done) is h = record {
    more = [];
    whole = subst (λ u. HasCanonicalIn has_front model text (given ++ u)) (sym (append-nil (pending_of w)))
        (subst (λ end. SlicesHaveGivenBy end has_front refuses model w.walk w.held text (given ++ pending_of w)) is h.by);
    ended = λ ended. refl;
  }
  ended_before (Err refusal) is h = subst (λ end. SlicesHaveGivenBy end has_front refuses model w.walk w.held text (given ++ pending_of w)) is h.by

  -- or it is now
  pub ended_now : (end : Result (Unit {0}) Refusal) → w.end ≡ None
      → MatchResult end (λ done. (more : Text) × HasCanonicalIn has_front model text ((given ++ pending_of w) ++ more))
      (λ refusal. refuses model text refusal.kind refusal.at)
      → MatchResult end (λ done. IsTakenWhole has_front model w text given) (λ refusal. refuses model text refusal.kind refusal.at)
  ended_now (Ok done) still h = record {
    more = h.0;
    whole = subst (HasCanonicalIn has_front model text) (append_assoc given (pending_of w) h.0) h.1;
    ended = λ ended. absurd (ended still);
  }
  ended_now (Err refusal) still h = h

module _ (has_front : Front) (model : Model) where
  -- a place after more items
  pub place_put : (text : Text) (walk : Walk) → IsWalkOver text walk → (from at held : ℕ) → from ≤ at
      → at ≤ length walk.text.now → (out : Text) × IsWrittenIn has_front model (take from text) out 0
      → (more : Text) → ((before own : Text) → IsWrittenIn has_front model before own 0
      → IsWrittenIn has_front model (before ++ between from at walk.text.now) (own ++ more) held)
      → (out : Text) × IsPlaceIn has_front model text (record { at = at; held = held }) out
  place_put text walk over from at held low within (out, h) more step =
      let place = front_of_walk text walk over at within in
      let same = walk_between text walk over from at low within in (
        out ++ more,
        record {
          within = place.1;
          limit = place.2;
          written = more_in has_front model text from at low out more 0 held h
              (λ before own w. subst (λ t. IsWrittenIn has_front model (before ++ t) (own ++ more) held) same (step before own w));
        },
      )

  -- a place in a front of a text is one in the text
  place_longer : (t : Text) (common : ℕ) (place : Place) (out : Text) → common ≤ length t → IsPlaceIn has_front model (take common t) place out
      → IsPlaceIn has_front model t place out
  place_longer t common place out within h = record {
    within = omega (arith, h.within, within, length-take-le common t within);
    limit = h.limit;
    written = subst (λ u. IsWrittenIn has_front model u out place.held) (take_front place.at common t h.within) h.written;
  }

  -- and of two texts with this front
  pub place_in_both : (t u : Text) (common : ℕ) (place : Place) (out : Text) → AreCommon t u common → IsPlaceIn has_front model (take common t) place out
      → IsPlaceIn has_front model t place out × IsPlaceIn has_front model u place out
  place_in_both t u common place out both h = (
    place_longer t common place out both.first h,
    place_longer u common place out both.second (subst (λ v. IsPlaceIn has_front model v place out) both.same h),
  )

  module _ (text : Text) where
    -- nothing was taken after a place
    pub midway_at : (walk : Walk) (place : Place) (out : Text) → IsWalkOver text walk → IsPlaceIn has_front model text place out
        → IsMidway has_front model (record walk { at = place.at }) place.held text out
    midway_at walk place out over h =
        record {
          over = moved_over text walk place.at over;
          within = subst (λ t. place.at ≤ length t) (sym over.text_is) (omega (arith, h.limit, h.within, length-take MAX_TEXT_LEN text));
          written = h.written;
        }

    module _ (walk : Walk) (held : ℕ) (out : Text) (h : IsMidway has_front model walk held text out) where
      pub midway_within : (at : ℕ) → at ≤ length walk.text.now → (at ≤ length text) × (at ≤ MAX_TEXT_LEN)
      midway_within at within = let place = front_of_walk text walk h.over at within in (place.1, place.2)

      -- the bytes between two offsets of a walk's text
      -- not too many are held
      pub few_held : held ≤ MAX_TEXT_LEN
      few_held =
          let w = h.written in
          let place = midway_within walk.at h.within in
          omega (arith, place.1, w.ends.few, length-take walk.at text, ap length w.split, length-append w.front w.last)

      -- verbatim bytes come
      pub verbatim_taken : (stop : ℕ) → walk.at ≤ stop → stop ≤ length walk.text.now
          → IsVerbatimAfter (IsWrittenIn has_front model) held (between walk.at stop walk.text.now)
          → IsMidway has_front model (record walk { at = stop }) held text (out ++ between walk.at stop walk.text.now)
      verbatim_taken stop low within verbatim =
          let place = midway_within stop within in
          let same = walk_between text walk h.over walk.at stop low within in
          record {
            over = moved_over text walk stop h.over;
            within = within;
            written = subst (λ u. IsWrittenIn has_front model (take stop text) (out ++ u) held) (sym same)
                (more_in has_front model text walk.at stop low out (between walk.at stop text) held held h.written
                (subst (IsVerbatimAfter (IsWrittenIn has_front model) held) same verbatim));
          }

      -- a directive comes
      pub directive_taken : (found : FoundDirective) (still : ℕ) (settled : Text) → IsFoundAt walk.text.now walk.at found → still ≤ held + 1
          → length settled + 4 * still ≤ 4 * held + MAX_DIRECTIVE_LEN
          → ((out : Text) (items rest : List Item) → held < 2 ^ 63 → IsMaking model out held items (Directive found.directive ∷ rest)
          → IsMaking model (out ++ settled) still items rest)
          → IsMidway has_front model (record walk { at = found.stop }) still text (out ++ settled)
      directive_taken found still settled there one short settles =
          let place = midway_within found.stop there.within in
          let low : walk.at ≤ found.stop = omega (arith, there.some) in
          let same = walk_between text walk h.over walk.at found.stop low there.within in
          let long : 1 ≤ length (between walk.at found.stop text) =
          omega (arith, there.some, place.0, length-take-le (found.stop - walk.at) (drop walk.at text) (omega (arith, place.0, length-drop walk.at text))) in
          record {
            over = moved_over text walk found.stop h.over;
            within = there.within;
            written = more_in has_front model text walk.at found.stop low out settled held still h.written
                (extends_in has_front model (between walk.at found.stop text) settled held still
                (λ before own w. directive_written model before own (between walk.at found.stop text) settled held still found.directive w
                (subst (λ t. IsReadAs t (Directive found.directive)) same there.read) (omega (arith, one, long)) short
                (λ items. settles own items [] (omega (arith, few_held)))));
          }

      -- what is held is put
      pub here : HasCanonicalIn has_front model (take walk.at text) (out ++ flat_map item_spelling (silents held))
      here = all_put has_front model (take walk.at text) out held (within_limit text walk.at (midway_within walk.at h.within).1) h.written

      pub at_end : walk.at ≡ length text → HasCanonicalIn has_front model text (out ++ flat_map item_spelling (silents held))
      at_end e = subst (λ t. HasCanonicalIn has_front model t (out ++ flat_map item_spelling (silents held)))
          (take_all walk.at text (omega (arith, e))) here

      -- and an item comes that the profile lacks
      pub other_taken : (stop : ℕ) (spelling : Text) → has_front model (take stop text)
          ((out ++ flat_map item_spelling (silents held)) ++ spelling) → walk.at < stop
          → stop ≤ length text → stop ≤ MAX_TEXT_LEN → length spelling ≤ 20
          → IsMidway has_front model (record walk { at = stop }) 0 text (out ++ (flat_map item_spelling (silents held) ++ spelling))
      other_taken stop spelling front some within limit short =
          let c = out ++ flat_map item_spelling (silents held) in
          let to = item_in has_front model text walk.at stop c spelling here front some within short in
          record {
            over = moved_over text walk stop h.over;
            within = subst (λ t. stop ≤ length t) (sym h.over.text_is) (omega (arith, within, limit, length-take MAX_TEXT_LEN text));
            written = subst (λ u. IsWrittenIn has_front model (take stop text) u 0) (append_assoc out (flat_map item_spelling (silents held)) spelling)
                to;
          }
