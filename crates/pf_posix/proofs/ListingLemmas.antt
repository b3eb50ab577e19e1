-- The specifications of a front of a format in which no argument has a number.
use Rattle.std.proofs.Common.{◌≡◌, ◌≢◌, ℕ, ◌+◌, ◌-◌, ◌≤◌, List, [], ◌∷◌, ◌++◌, length, length-append, drop, get_or, map, take, refl, sym, ap, ap₂, ◌∙◌, arith, inl, inr, subst}
use Rattle.std.specs.Prelude.{Option, Some, None, MatchResult, IfOk, Result, Ok, Err}
use Rattle.std.proofs.lemmas.List.{append-nil, append_assoc, length_push, length-drop, length-take-le, nil_from_length, take_all}
use Rattle.pf_values.specs.declared.limits.TheConstants.{MAX_TEXT_LEN}
use Rattle.pf_values.specs.declared.models.Model.{Model}
use Rattle.pf_values.specs.meaning.Text.{Text}
use Rattle.pf_text.specs.Walks.{HasPassed, HasPercent, IsPercent}
use Rattle.pf_text.specs.declared.refusals.Refusal.{Refusal}
use Rattle.pf_text.specs.declared.walk.Walk.{Walk}
use Rattle.pf_text.proofs.RefusalLemmas.{take_between}
use Rattle.pf_text.proofs.WalkLemmas.{run_is_read, run_takes_none}
use Rattle.pf_posix.specs.declared.directive_spans.DirectiveSpan.{DirectiveSpan}
use Rattle.pf_posix.specs.declared.listings.ListedFront.{ListedFront}
use Rattle.pf_posix.specs.declared.specifications.Numbering.{Numbering}
use Rattle.pf_posix.specs.declared.specifications.Specification.{Specification as Read}
use Rattle.pf_posix.specs.declared.types.WholeArgType.{WholeArgType}
use Rattle.pf_posix.specs.Directives.{HasDirectiveCount, argument_index, directive_between, directives_from, star_index}
use Rattle.pf_posix.specs.Halts.{IsDefinedAt}
use Rattle.pf_posix.specs.Items.{Byte, Errno, WholeItem, ReadsWhole, Specification, errno_letter, fetched}
use Rattle.pf_posix.specs.Laws.{filled}
use Rattle.pf_posix.specs.Listings.{IsListedFront, IsListedItem, IsListedOrNone, item_directives}
use Rattle.pf_posix.specs.PartsInText.{specification_read}
use Rattle.pf_posix.specs.Plain.{HasTypeAt, IsPlainFront, IsPutAt, numbering_after}
use Rattle.pf_posix.specs.Refusals.{IsWholeRefusedAt}
use Rattle.pf_posix.specs.Specifications.{Amount, Given, Fetched, WholeSpecification}
use Rattle.pf_posix.specs.Types.{conversion_type, fetch, fetches, star_fetches, widened}
use Rattle.pf_posix.proofs.DirectiveLemmas.{has_listed}
use Rattle.pf_posix.proofs.ItemsOnce.{items_once}
use Rattle.pf_posix.proofs.KeptTypes.{fetched_here, item_of, reads_here, whole_append}
use Rattle.pf_posix.proofs.ListLemmas.{ends, filled_none, same_from}
use Rattle.pf_posix.proofs.PlainFrontLemmas.{front_put, front_walked, front_whole, plain_errno, put_few}

-- a specification that fetches one argument, of this type
no_star : (amount : Option Amount) (next : ℕ) → star_fetches amount ≡ [] → star_index amount next ≡ None
no_star None next e = refl
no_star (Some (Given n)) next e = refl
no_star (Some (Fetched number)) next e = cc

module _ (begin end : ℕ) where
  abbrev span_of : ℕ → Option ℕ → Option ℕ → WholeArgType → DirectiveSpan
  span_of argument width precision kind = record {
    begin = begin;
    end = end;
    argument = argument;
    width_argument = width;
    precision_argument = precision;
    kind = kind;
  }

  pub one_directive : (model : Model) (next : ℕ) (s : WholeSpecification) (kind : WholeArgType) → fetches model s ≡ fetch None kind ∷ []
      → directive_between model begin end next s ≡ span_of next None None kind
  one_directive model next s kind e =
      let w = star_fetches s.width in
      let p = star_fetches s.precision in
      let last = fetch s.position (conversion_type model s.modifier s.conversion) in
      let few : length (w ++ p) ≡ 0 = omega (arith, ap length e, length_push (w ++ p) last) in
      let no_width : w ≡ [] = nil_from_length w (omega (arith, few, length-append w p)) in
      let no_precision : p ≡ [] = nil_from_length p (omega (arith, few, length-append w p)) in
      let alone : last ∷ [] ≡ fetch None kind ∷ [] = sym (ap₂ (λ a b. a ++ b ++ last ∷ []) no_width no_precision) ∙ e in
      let wanted : conversion_type model s.modifier s.conversion ∷ [] ≡ kind ∷ [] = ap (map (λ f. f.wanted)) alone in
      let number : s.position ∷ [] ≡ None ∷ [] = ap (map (λ f. f.number)) alone in
      let position : s.position ≡ None = cc in
      let type_is : conversion_type model s.modifier s.conversion ≡ kind = cc in
      let argument : argument_index s.position (next + length (w ++ p)) ≡ next = ap₂ argument_index position (omega (arith, few)) in
      let precision = star_index s.precision (next + length w) in
      ap₂ (λ a v. span_of a v precision (conversion_type model s.modifier s.conversion)) argument (no_star s.width next no_width)
      ∙ ap₂ (λ q k. span_of next None q k) (no_star s.precision (next + length w) no_precision) type_is

module _ (model : Model) where
  -- a text is read in one way
  pub same_directives : (at next : ℕ) (t u : Text) (items more : List WholeItem) (h : ReadsWhole t items) (k : ReadsWhole u more) → t ≡ u
      → directives_from model at next t items h ≡ directives_from model at next u more k
  same_directives at next t u items more h k e =
      subst (λ l. (k : ReadsWhole u l) → directives_from model at next t items h ≡ directives_from model at next u l k)
      (items_once u items more (subst (λ v. ReadsWhole v items) e h) k) (λ k. same_from model at at next t u items h k refl e) k

  -- more items after a text
  pub joined_from : (from at middle next after : ℕ) (t u v : Text) (items more : List WholeItem) (h : ReadsWhole t items) (k : ReadsWhole u more)
      (w : ReadsWhole v (items ++ more)) → v ≡ t ++ u → from ≡ at → middle ≡ at + length t → after ≡ next + length (fetched model items)
      → directives_from model from next v (items ++ more) w ≡ directives_from model at next t items h ++ directives_from model middle after u more k
  joined_from from at middle next after t u v [] more h k w e f m a =
      let same : next ≡ after = omega (arith, a) in
      subst (λ n. directives_from model from next v more w ≡ directives_from model middle n u more k) same
      (same_from model from middle next v u more w k (omega (arith, f, m, ap length h)) (e ∙ ap (λ x. x ++ u) h))
  joined_from from at middle next after t u v (Byte x ∷ items) more h k w e f m a =
      let same = ends from at (Byte x) w.0 w.1 h.0 (h.1 ++ u) w.2 h.2 f (sym w.4 ∙ e ∙ ap (λ x. x ++ u) h.4 ∙ append_assoc h.0 h.1 u) in
      joined_from (from + length w.0) (at + length h.0) middle next after h.1 u w.1 items more h.3 k w.3 same.1 same.0
      (omega (arith, m, ap length h.4, length-append h.0 h.1)) a
  joined_from from at middle next after t u v (Errno ∷ items) more h k w e f m a =
      let same = ends from at Errno w.0 w.1 h.0 (h.1 ++ u) w.2 h.2 f (sym w.4 ∙ e ∙ ap (λ x. x ++ u) h.4 ∙ append_assoc h.0 h.1 u) in
      joined_from (from + length w.0) (at + length h.0) middle next after h.1 u w.1 items more h.3 k w.3 same.1 same.0
      (omega (arith, m, ap length h.4, length-append h.0 h.1)) a
  joined_from from at middle next after t u v (Specification s ∷ items) more h k w e f m a =
      let same = ends from at (Specification s) w.0 w.1 h.0 (h.1 ++ u) w.2 h.2 f (sym w.4 ∙ e ∙ ap (λ x. x ++ u) h.4 ∙ append_assoc h.0 h.1 u) in
      ap₂ (λ d l. d ∷ l) (ap₂ (λ begin stop. directive_between model begin stop next s) f same.0)
      (joined_from (from + length w.0) (at + length h.0) middle (next + length (fetches model s)) after h.1 u w.1 items more h.3 k w.3 same.1 same.0
      (omega (arith, m, ap length h.4, length-append h.0 h.1)) (omega (arith, a, length-append (fetches model s) (fetched model items))))

  -- items that take no arguments
  pub no_directives : (at next : ℕ) (t : Text) (items : List WholeItem) (reads : ReadsWhole t items) → fetched model items ≡ []
      → directives_from model at next t items reads ≡ []
  no_directives at next t [] reads e = refl
  no_directives at next t (Byte x ∷ items) reads e = no_directives (at + length reads.0) next reads.1 items reads.3 e
  no_directives at next t (Errno ∷ items) reads e = no_directives (at + length reads.0) next reads.1 items reads.3 e
  no_directives at next t (Specification s ∷ items) reads e =
      absurd (omega (
        arith,
        ap length e,
        length-append (fetches model s) (fetched model items),
        length_push (star_fetches s.width ++ star_fetches s.precision) (fetch s.position (conversion_type model s.modifier s.conversion)),
      ))

  -- what a walk has passed lists none
  passed_directives : (before after : Walk) (items more : List WholeItem) → HasPassed IsPercent before after
      → (reads : ReadsWhole (take before.at before.text.now) items) (now : ReadsWhole (take after.at after.text.now) more)
      → directives_from model 0 0 (take after.at after.text.now) more now ≡ directives_from model 0 0 (take before.at before.text.now) items reads
  passed_directives before after items more h reads now =
      let t = after.text.now in
      let bytes = take (after.at - before.at) (drop before.at t) in
      let passed = run_is_read IsPercent bytes h.items h.run in
      let own = reads_here bytes h.items passed in
      let none : fetched model (map item_of h.items) ≡ [] =
      fetched_here model bytes h.items passed ∙ ap (map (λ w. fetch None (widened w))) (run_takes_none model h.items h.run.passed) in
      let start = take before.at t in
      let front : ReadsWhole start items = subst (λ u. ReadsWhole (take before.at u) items) (sym h.text) reads in
      let whole = whole_append start bytes items (map item_of h.items) front own in
      same_directives 0 0 (take after.at t) (start ++ bytes) more (items ++ map item_of h.items) now whole (take_between t before.at after.at h.from)
      ∙ joined_from 0 0 (0 + length start) 0 (0 + length (fetched model items)) start bytes (start ++ bytes) items (map item_of h.items) front own whole
      refl refl refl refl
      ∙ ap (λ l. directives_from model 0 0 start items front ++ l)
      (no_directives (0 + length start) (0 + length (fetched model items)) bytes (map item_of h.items) own none)
      ∙ append-nil (directives_from model 0 0 start items front)
      ∙ same_directives 0 0 start (take before.at before.text.now) items items front reads (ap (take before.at) h.text)

  one_item : (at stop next : ℕ) (text : Text) (item : WholeItem) (reads : ReadsWhole text (item ∷ [])) → at + length reads.0 ≡ stop
      → directives_from model at next text (item ∷ []) reads ≡ item_directives model at stop next item
  one_item at stop next text (Byte x) reads e = refl
  one_item at stop next text Errno reads e = refl
  one_item at stop next text (Specification s) reads e = ap (λ k. directive_between model at k next s ∷ []) e

  at_most_one : (begin end next : ℕ) (item : WholeItem) → length (item_directives model begin end next item) ≤ 1
  at_most_one begin end next (Byte x) = omega arith
  at_most_one begin end next Errno = omega arith
  at_most_one begin end next (Specification s) = omega arith

nothing_filled : {X : Type 0} (first before more : List X) → [] ≡ filled first before → [] ≡ filled first more
nothing_filled [] before more e = refl
nothing_filled (o ∷ first) [] more e = cc
nothing_filled (o ∷ first) (x ∷ before) more e = cc

-- a specification that takes one argument is put
pub typed_listed : (model : Model) (t : Text) (at : ℕ) (kind : WholeArgType) (stop : ℕ) (old new : List DirectiveSpan) (count next : ℕ)
    → HasTypeAt model t at (kind, stop) → (span : DirectiveSpan) → span ≡ span_of at stop next None None kind
    → ((first before : List DirectiveSpan) → old ≡ filled first before → count ≡ length before → new ≡ filled first (before ++ span ∷ []))
    → length new ≡ length old → IsListedItem model t at old new count next (record { at = stop; count = count + 1; fetched = next + 1 })
typed_listed model t at kind stop old new count next h span is puts long =
    let same : fetched model (Specification h.s ∷ []) ≡ fetch None kind ∷ [] = append-nil (fetches model h.s) ∙ h.fetches_are in
    let spanned = is ∙ sym (one_directive at stop model next h.s kind h.fetches_are) in
    record {
      item = Specification h.s;
      plain = h.plain;
      fetches_are = ap (λ l. next + length l) (sym same);
      more = refl;
      put = λ first before e c. puts first before e c ∙ ap (λ d. filled first (before ++ d ∷ [])) spanned;
      same_length = long;
    }

-- and so is another without a number
pub any_listed : (model : Model) (t : Text) (at : ℕ) (numbering : Numbering) (read : Read) (stop : ℕ) (old new : List DirectiveSpan) (count next : ℕ)
    → IsDefinedAt t at numbering (read, stop) → read.position ≡ None → (span : DirectiveSpan)
    → span ≡ directive_between model at stop next (specification_read read) → (more : ℕ) → more ≡ length (fetches model (specification_read read))
    → ((first before : List DirectiveSpan) → old ≡ filled first before → count ≡ length before → new ≡ filled first (before ++ span ∷ []))
    → length new ≡ length old → IsListedItem model t at old new count next (record { at = stop; count = count + 1; fetched = next + more })
any_listed model t at numbering read stop old new count next h none span is more counted puts long =
    let s = specification_read read in
    record {
      item = Specification s;
      plain = record {
        some = h.is.read.some;
        within = h.is.read.within;
        spelled = (h.is.read.spelled, h.defined);
        unnumbered = none;
      };
      fetches_are = ap (λ n. next + n) (counted ∙ ap length (sym (append-nil (fetches model s))));
      more = refl;
      put = λ first before e c. puts first before e c ∙ ap (λ d. filled first (before ++ d ∷ [])) is;
      same_length = long;
    }

-- nothing is put for `%m`
pub errno_listed : (model : Model) (t : Text) (at : ℕ) (old : List DirectiveSpan) (count next : ℕ) → HasPercent t at → get_or t (at + 1) 0 ≡ errno_letter
    → IsListedItem model t at old old count next (record { at = at + 2; count = count; fetched = next })
errno_listed model t at old count next h letter =
    record {
      item = Errno;
      plain = plain_errno t at h letter;
      fetches_are = omega arith;
      more = omega arith;
      put = λ first before e c. e ∙ ap (filled first) (sym (append-nil before));
      same_length = refl;
    }

module _ (model : Model) (t : Text) (at : ℕ) (old new : List DirectiveSpan) (count next : ℕ) (read : ListedFront) where
  pub was_listed : IsListedOrNone model t at old new count next read → read.at ≢ at → IsListedItem model t at old new count next read
  was_listed (inl h) other = absurd (other h.0)
  was_listed (inr h) other = h

  pub none_listed : IsListedOrNone model t at old new count next read → read.at ≡ at
      → (new ≡ old) × (get_or t (at + 1) 0 ≢ errno_letter)
      × ((found : Read × ℕ) → IsDefinedAt t at (numbering_after next) found → found.0.position ≢ None)
  none_listed (inl h) same = (h.1, h.2, h.3)
  none_listed (inr h) same = absurd (omega (arith, h.plain.some, same))

  -- no type of an argument is put
  no_types : IsListedItem model t at old new count next read → IsPutAt model t at [] [] next (record { at = read.at; count = read.fetched })
  no_types h =
      record {
        item = h.item;
        plain = h.plain;
        more = h.fetches_are;
        put = λ first before e c. nothing_filled first before _ e;
        same_length = refl;
      }

  pub listed_few : IsListedItem model t at old new count next read → count ≤ at → next ≤ at → (read.count ≤ read.at) × (read.fetched ≤ read.at)
  listed_few h few few_fetched = (
    omega (arith, few, h.more, h.plain.some, at_most_one model at read.at next h.item),
    put_few model t at [] [] next read.at read.fetched (no_types h) few_fetched,
  )

pub no_listed : (model : Model) (t : Text) (old : List DirectiveSpan) → IsListedFront model t 0 old old 0 0
no_listed model t old =
    record { plain = record { items = []; reads = refl; unnumbered = tt; count_is = refl }; count_is = refl; front = sym (filled_none old) }

module _ (model : Model) (t : Text) (at : ℕ) (old new : List DirectiveSpan) (count next : ℕ) (h : IsListedFront model t at old new count next) where
  -- the front, with no room for types
  abbrev pub front_of : IsPlainFront model t at [] [] next
  front_of = record { plain = h.plain; front = refl }

  abbrev listed : List DirectiveSpan
  listed = directives_from model 0 0 (take at t) h.plain.items h.plain.reads

  -- an item more
  pub listed_more : (more : List DirectiveSpan) (read : ListedFront) → IsListedItem model t at new more count next read → at ≤ length t
      → IsListedFront model t read.at old more read.count read.fetched
  listed_more more read p low =
      let now = (front_put model t at [] [] next front_of [] read.at read.fetched (no_types model t at new more count next read p)).plain in
      let text = take (read.at - at) (drop at t) in
      let own : ReadsWhole text (p.item ∷ []) = (text, [], p.plain.spelled, refl, sym (append-nil text)) in
      let start = take at t in
      let whole = whole_append start text h.plain.items (p.item ∷ []) h.plain.reads own in
      let size = length-take-le (read.at - at) (drop at t) (omega (arith, p.plain.within, length-drop at t)) in
      let place = length-take-le at t low in
      let last = item_directives model at read.at next p.item in
      let are : directives_from model 0 0 (take read.at t) now.items now.reads ≡ listed ++ last =
      same_directives model 0 0 (take read.at t) (start ++ text) now.items (h.plain.items ++ p.item ∷ []) now.reads whole
      (take_between t at read.at (omega (arith, p.plain.some)))
      ∙ joined_from model 0 0 at 0 next start text (start ++ text) h.plain.items (p.item ∷ []) h.plain.reads own whole refl refl
      (omega (arith, place)) (omega (arith, h.plain.count_is))
      ∙ ap (λ l. listed ++ l) (one_item model at read.at next text p.item own (omega (arith, size, p.plain.some))) in
      record {
        plain = now;
        count_is = omega (arith, p.more, h.count_is, ap length are, length-append listed last);
        front = p.put old listed h.front h.count_is ∙ ap (filled old) (sym are);
      }

  -- the end of the text
  pub listed_whole : length t ≤ at → length t ≤ MAX_TEXT_LEN → HasDirectiveCount model t old new count
  listed_whole end few =
      let all = front_whole model t at [] [] next front_of end few in
      record {
        directives = listed;
        listed = has_listed model t all.types all.accepted listed
            (same_directives model 0 0 (take at t) t h.plain.items all.accepted.items h.plain.reads all.accepted.reads (take_all at t end));
        count_is = h.count_is;
        front = h.front;
      }

  -- what takes no arguments has put nothing
  pub listed_others : (last : List DirectiveSpan) (r : Result ℕ Refusal)
      → MatchResult r (λ count. HasDirectiveCount model t new last count) (λ refusal. IsWholeRefusedAt model t refusal.kind refusal.at)
      → IfOk r (λ _. next ≡ 0)
      → MatchResult r (λ count. HasDirectiveCount model t old last count) (λ refusal. IsWholeRefusedAt model t refusal.kind refusal.at)
  listed_others last (Ok n) k none =
      let nothing = nil_from_length (fetched model h.plain.items) (sym h.plain.count_is ∙ none) in
      let unlisted = no_directives model 0 0 (take at t) h.plain.items h.plain.reads nothing in
      subst (λ l. HasDirectiveCount model t l last n) (h.front ∙ ap (filled old) unlisted ∙ filled_none old) k
  listed_others last (Err refusal) k none = k

pub listed_walked : (model : Model) (old new : List DirectiveSpan) (count next : ℕ) (before after : Walk) → HasPassed IsPercent before after
    → IsListedFront model before.text.now before.at old new count next → before.at ≤ length before.text.now
    → IsListedFront model after.text.now after.at old new count next × (after.at ≤ length after.text.now)
listed_walked model old new count next before after h front low =
    let walked = front_walked model [] [] next before after h (front_of model before.text.now before.at old new count next front) low in
    let now = walked.0.plain in
    let same = passed_directives model before after front.plain.items now.items h front.plain.reads now.reads in (
      record {
        plain = now;
        count_is = front.count_is ∙ ap length (sym same);
        front = front.front ∙ ap (filled old) (sym same);
      },
      walked.1,
    )
