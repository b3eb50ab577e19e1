-- A walk over the specifications of a text.
use Rattle.std.proofs.Common.{◌≡◌, ℕ, ◌+◌, ◌*◌, ◌<◌, ◌≤◌, List, [], ◌∷◌, ◌++◌, drop, length, length-append, map, refl, sym, ap, ◌∙◌, arith, subst}
use Rattle.std.specs.Prelude.{◌==◌, Some}
use Rattle.std.specs.List.{AllByRecursion}
use Rattle.std.proofs.lemmas.List.{append-nil, append_assoc, drop_all, length-drop, length-map, length_push, map_push}
use Rattle.pf_values.specs.declared.limits.TheConstants.{MAX_TEXT_LEN}
use Rattle.pf_values.specs.declared.models.Model.{Model}
use Rattle.pf_values.specs.meaning.Text.{Text}
use Rattle.pf_text.specs.Walks.{HasPassed, IsPercent, IsWalkOver}
use Rattle.pf_text.specs.declared.walk.Walk.{Walk}
use Rattle.pf_text.proofs.ReadingLemmas.{moved_over}
use Rattle.pf_posix.specs.declared.directive_spans.DirectiveSpan.{DirectiveSpan}
use Rattle.pf_posix.specs.declared.specification_spans.SpecificationSpan.{SpecificationSpan}
use Rattle.pf_posix.specs.declared.specification_walk.SpecificationWalk.{SpecificationWalk}
use Rattle.pf_posix.specs.declared.specifications.Specification.{Specification as Read}
use Rattle.pf_posix.specs.Directives.{directive_between, directives_from}
use Rattle.pf_posix.specs.DirectivesInText.{IsBehindItem, IsListedBehind, IsListedTo}
use Rattle.pf_posix.specs.Halts.{offsets_read}
use Rattle.pf_posix.specs.Items.{Byte, Errno, WholeItem, ReadsWhole, Specification}
use Rattle.pf_posix.specs.PartsInText.{specification_read}
use Rattle.pf_posix.specs.SpecificationSpans.{AreWholePartsAt, HasItsParts, HasSpecifications}
use Rattle.pf_posix.specs.SpecificationWalks.{AreTheRest, IsAhead, IsBefore}
use Rattle.pf_posix.specs.Specifications.{WholeSpecification, conversion_letter, modifier_letters}
use Rattle.pf_posix.specs.Spelling.{SpellsWhole}
use Rattle.pf_posix.specs.Types.{fetches}
use Rattle.pf_posix.proofs.Agreeing.{all_push}
use Rattle.pf_posix.proofs.DirectiveLemmas.{has_listed, listed_byte, listed_percent, other_byte}
use Rattle.pf_posix.proofs.ItemsOnce.{items_once}
use Rattle.pf_posix.proofs.PassedLemmas.{walked}
use Rattle.pf_posix.proofs.SpecificationSpanLemmas.{its_parts}

abbrev pub directive_of : SpecificationSpan → DirectiveSpan
directive_of span = span.directive

-- a specification has two bytes at least
two_bytes : {t : Text} {begin end : ℕ} (read : Read) → AreWholePartsAt t begin end (offsets_read read) (specification_read read) → begin + 2 ≤ end
two_bytes read parts = omega (arith, parts.number.2.from, parts.flags.2.from, parts.width.2.from, parts.precision.2.from, parts.modifier.from)

module _ (t : Text) where
  pub ahead_start : (model : Model) (items : List WholeItem) (reads : ReadsWhole t items) → length t ≤ MAX_TEXT_LEN → (walk : SpecificationWalk)
      → walk.model ≡ model → walk.text.now ≡ t → IsWalkOver t walk.walk → walk.walk.at ≡ 0 → walk.fetched ≡ 0
      → IsAhead t walk (directives_from model 0 0 t items reads) []
  ahead_start model items reads limit walk same text over start none =
      let all = directives_from model 0 0 t items reads in
      record {
        text_is = text;
        listed = rw (same, start, none) (record { items = items; reads = reads; within = omega arith; all_are = refl });
        over = over;
        limit = limit;
        few = omega (arith, none);
        apart = omega arith;
      }

  module _ (walk : SpecificationWalk) (all done : List DirectiveSpan) (h : IsAhead t walk all done) where
    -- what the walk says of its own text
    pub own_text : IsAhead walk.text.now walk all done
    own_text = subst (λ u. IsAhead u walk all done) (sym h.text_is) h

    module _ (end : ℕ) (low : walk.walk.at < end) where
      -- an item that isn't a specification, and what a walk passes after it
      pub ahead_passed : (after : Walk) → HasPassed IsPercent (record walk.walk { at = end }) after → IsListedTo walk.model t all end walk.fetched done
          → IsAhead t (record walk { walk = after }) all done
      ahead_passed after passed listed =
          let now = walked t (λ k. IsListedTo walk.model t all k walk.fetched done)
          (λ k b less is other some now. listed_byte walk.model t all done k walk.fetched now less (ap (λ x. x == 37) is ∙ other_byte b other))
          (λ k less first second now. listed_percent walk.model t all done k walk.fetched now (omega (arith, less)) first (ap (λ x. x == 37) second))
          h.limit (record walk.walk { at = end }) after (moved_over t walk.walk end h.over) listed.within passed listed in
          record {
            text_is = h.text_is;
            listed = now.2;
            over = now.0;
            limit = h.limit;
            few = omega (arith, h.few, low, passed.from);
            apart = omega (arith, h.apart, low, passed.from);
          }

      -- a specification
      pub ahead_found : (read : Read) → IsListedBehind walk.model t all walk.walk.at walk.fetched done (Some read) end
          → IsBehindItem t h.listed.items (Some read) end → AreWholePartsAt t walk.walk.at end (offsets_read read) (specification_read read)
          → (span : SpecificationSpan) → span.directive ≡ directive_between walk.model walk.walk.at end walk.fetched (specification_read read)
          → span.parts ≡ read.parts → span.offsets ≡ offsets_read read
          → (more : ℕ) → more ≡ length (fetches walk.model (specification_read read)) → more ≤ 3
          → IsAhead t (record walk { walk = record walk.walk { at = end }; fetched = walk.fetched + more }) all
          (done ++ span.directive ∷ []) × HasItsParts t span
      ahead_found read listed behind places span spanned parts offsets more counted many =
          let own = length (fetches walk.model (specification_read read)) in
          let spanned_there = subst (λ d. IsListedTo walk.model t all end (walk.fetched + own) (done ++ d ∷ [])) (sym spanned) listed in (
            record {
              text_is = h.text_is;
              listed = subst (λ n. IsListedTo walk.model t all end (walk.fetched + n) (done ++ span.directive ∷ [])) (sym counted) spanned_there;
              over = moved_over t walk.walk end h.over;
              limit = h.limit;
              few = omega (arith, h.few, low, many);
              apart = omega (arith, h.apart, length_push done span.directive, two_bytes read places);
            },
            its_parts walk.model t walk.walk.at end walk.fetched read ((subst (ReadsWhole (drop walk.walk.at t)) behind.1 h.listed.reads).2.1) places span
                spanned parts offsets,
          )

    pub ahead_ends : length t ≤ walk.walk.at → done ≡ all
    ahead_ends over = go h.listed.items h.listed.reads h.listed.all_are where
      go : (items : List WholeItem) (reads : ReadsWhole (drop walk.walk.at t) items)
          → all ≡ done ++ directives_from walk.model walk.walk.at walk.fetched (drop walk.walk.at t) items reads → done ≡ all
      go (item ∷ later) reads e = let no : item ∷ later ≡ [] = items_once _ (item ∷ later) [] reads (drop_all walk.walk.at t over) in cc
      go [] reads e = sym (append-nil done) ∙ sym e

-- the same of what is known of the walk's own text
module _ (t : Text) (walk : SpecificationWalk) (all done : List DirectiveSpan) (h : IsAhead t walk all done) (end : ℕ) (low : walk.walk.at < end) where
  pub own_passed : (after : Walk) → HasPassed IsPercent (record walk.walk { at = end }) after → IsListedTo walk.model walk.text.now all end walk.fetched done
      → IsAhead t (record walk { walk = after }) all done
  own_passed after passed listed =
      subst (λ u. IsAhead u (record walk { walk = after }) all done) h.text_is
      (ahead_passed walk.text.now walk all done (own_text t walk all done h) end low after passed listed)

  pub own_found : (read : Read) → IsListedBehind walk.model walk.text.now all walk.walk.at walk.fetched done (Some read) end
      → IsBehindItem walk.text.now (own_text t walk all done h).listed.items (Some read) end
      → AreWholePartsAt walk.text.now walk.walk.at end (offsets_read read) (specification_read read)
      → (span : SpecificationSpan) → span.directive ≡ directive_between walk.model walk.walk.at end walk.fetched (specification_read read)
      → span.parts ≡ read.parts → span.offsets ≡ offsets_read read
      → (more : ℕ) → more ≡ length (fetches walk.model (specification_read read)) → more ≤ 3
      → IsAhead t (record walk { walk = record walk.walk { at = end }; fetched = walk.fetched + more }) all (done ++ span.directive ∷ []) × HasItsParts t span
  own_found read listed behind places span spanned parts offsets more counted many =
      subst (λ u. IsAhead u (record walk { walk = record walk.walk { at = end }; fetched = walk.fetched + more }) all (done ++ span.directive ∷ [])
      × HasItsParts u span) h.text_is
      (ahead_found walk.text.now walk all done (own_text t walk all done h) end low read listed behind places span spanned parts offsets more counted many)

-- so its spelling has
spelled_long : {first : Text} {s : WholeSpecification} → SpellsWhole first s → 2 ≤ length first
spelled_long {first} {s} h =
    let b = h.before_is in
    let w = b.before_is in
    let f = w.before_is in
    let whole = ap length h.whole ∙ length-append _ (conversion_letter s.conversion ∷ []) in
    let letters = length-append h.before (modifier_letters s.modifier) in
    let precise = ap length b.whole ∙ length-append b.before b.text in
    let wide = ap length w.whole ∙ length-append w.before w.text in
    let begun = ap length f.whole in
    omega (arith, whole, letters, precise, wide, begun)

-- a text has at most one for two of its bytes
pub spans_few : (model : Model) (at next : ℕ) (t : Text) (items : List WholeItem) (reads : ReadsWhole t items)
    → 2 * length (directives_from model at next t items reads) ≤ length t
spans_few model at next t [] reads = omega arith
spans_few model at next t (Byte byte ∷ items) reads =
    omega (arith, spans_few model (at + length reads.0) next reads.1 items reads.3, ap length reads.4, length-append reads.0 reads.1)
spans_few model at next t (Errno ∷ items) reads =
    omega (arith, spans_few model (at + length reads.0) next reads.1 items reads.3, ap length reads.4, length-append reads.0 reads.1)
spans_few model at next t (Specification s ∷ items) reads =
    omega (
      arith,
      spans_few model (at + length reads.0) (next + length (fetches model s)) reads.1 items reads.3,
      ap length reads.4,
      length-append reads.0 reads.1,
      spelled_long reads.2.0,
    )

pub few_ahead : (t : Text) (walk : SpecificationWalk) (all done : List DirectiveSpan) → IsAhead t walk all done → 2 * length all ≤ length t
few_ahead t walk all done h =
    let rest = directives_from walk.model walk.walk.at walk.fetched (drop walk.walk.at t) h.listed.items h.listed.reads in
    omega (
      arith,
      h.apart,
      h.listed.within,
      ap length h.listed.all_are,
      length-append done rest,
      length-drop walk.walk.at t,
      spans_few walk.model walk.walk.at walk.fetched (drop walk.walk.at t) h.listed.items h.listed.reads,
    )

-- specifications that a walk has gone past after those that are done
pub record AreBehind (t : Text) (walk : SpecificationWalk) (all done : List DirectiveSpan) (spans : List SpecificationSpan) : Type 0 where
  pub ahead : IsAhead t walk all (done ++ map directive_of spans)
  pub each : AllByRecursion (HasItsParts t) spans

module _ (t : Text) (walk : SpecificationWalk) (all done : List DirectiveSpan) where
  pub none_behind : IsAhead t walk all done → AreBehind t walk all done []
  none_behind h = record { ahead = subst (IsAhead t walk all) (sym (append-nil done)) h; each = tt }

  pub behind_next : (spans : List SpecificationSpan) (span : SpecificationSpan) → AllByRecursion (HasItsParts t) spans
      → IsAhead t walk all ((done ++ map directive_of spans) ++ span.directive ∷ []) × HasItsParts t span → AreBehind t walk all done (spans ++ span ∷ [])
  behind_next spans span each next = record {
    ahead = subst (IsAhead t walk all)
        (append_assoc done (map directive_of spans) (span.directive ∷ []) ∙ ap (λ l. done ++ l) (sym (map_push directive_of spans span))) next.0;
    each = all_push (HasItsParts t) spans span each next.1;
  }

-- these are no more than all, and than one for two bytes
pub behind_few : (t : Text) (walk : SpecificationWalk) (all : List DirectiveSpan) (spans : List SpecificationSpan) → AreBehind t walk all [] spans
    → (length spans ≤ length all) × (2 * length spans ≤ length t)
behind_few t walk all spans h =
    let rest = directives_from walk.model walk.walk.at walk.fetched (drop walk.walk.at t) h.ahead.listed.items h.ahead.listed.reads in
    let long = length-map spans directive_of in (
      omega (arith, long, ap length h.ahead.listed.all_are, length-append (map directive_of spans) rest),
      omega (arith, long, h.ahead.apart, h.ahead.listed.within),
    )

-- so it is if a walk has gone past all
pub has_specifications : (model : Model) (t : Text) (walk : SpecificationWalk) (before : IsBefore model t walk) (spans : List SpecificationSpan)
    → AreTheRest t (directives_from model 0 0 t before.accepted.items before.accepted.reads) [] spans → HasSpecifications model t spans
has_specifications model t walk before spans rest = record {
  listed = has_listed model t before.types before.accepted (map directive_of spans) (sym rest.all_are);
  each = rest.each;
}
