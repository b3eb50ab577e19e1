-- The specifications of an accepted text, one item after another.
use Rattle.std.proofs.Common.{inl, inr, ◌≡◌, ◌≢◌, ℕ, ◌+◌, ◌-◌, ◌*◌, ◌<◌, ◌≤◌, true, false, List, [], ◌∷◌, ◌++◌, length, length-append, get_or, drop, take, refl, sym}
use Rattle.std.proofs.Common.{ap, ◌∙◌, arith, subst}
use Rattle.std.specs.Prelude.{Some, None, ◌==◌}
use Rattle.std.specs.List.{AllByRecursion}
use Rattle.std.proofs.lemmas.Bool.Decides.{nat_tests}
use Rattle.std.proofs.lemmas.Bool.{cases_lt, eqb-true}
use Rattle.std.proofs.lemmas.List.{append_assoc, append-nil, drop_all, drop_more, get_or_past, length-drop, length_push}
use Rattle.pf_values.specs.declared.models.Model.{Model}
use Rattle.pf_values.specs.meaning.Text.{Text}
use Rattle.pf_posix.specs.declared.directive_spans.DirectiveSpan.{DirectiveSpan}
use Rattle.pf_posix.specs.declared.specifications.Specification.{Specification as Read}
use Rattle.pf_posix.specs.declared.types.WholeArgType.{WholeArgType}
use Rattle.pf_text.specs.Walks.{HasPassed, IsPercent, IsWalkOver}
use Rattle.pf_text.specs.declared.walk.Walk.{Walk}
use Rattle.pf_text.proofs.ReadingLemmas.{moved_over}
use Rattle.pf_posix.specs.Directives.{HasDirectiveCount, HasDirectives, TakesFrom, directive_between, directives_from}
use Rattle.pf_posix.specs.DirectivesInText.{IsBehindItem, IsListedBehind, IsListedTo}
use Rattle.pf_posix.specs.Items.{Byte, Errno, HasArguments, WholeItem, ReadsWhole, Specification, errno}
use Rattle.pf_posix.specs.Laws.{filled}
use Rattle.pf_posix.specs.PartsInText.{IsSpecificationAt, specification_read}
use Rattle.pf_posix.specs.Halts.{BeginsNoneAfter}
use Rattle.pf_posix.specs.declared.specifications.Numbering.TheVariants.{Undecided}
use Rattle.pf_posix.specs.Types.{fetches}
use Rattle.pf_posix.proofs.ItemsOnce.{BeginsWith, HasText, first_item, item_once, items_once, percent_twice, text_there}
use Rattle.pf_posix.proofs.PartLemmas.{bool_no, head_at}
use Rattle.pf_posix.proofs.SpecificationsOnce.{parted}
use Rattle.pf_posix.proofs.ListLemmas.{same_from, filled_none}
use Rattle.pf_posix.proofs.Bounds.{all_typed}
use Rattle.pf_posix.proofs.PassedLemmas.{walked}

-- `%` and another byte
two_split : (t : Text) (at byte : ℕ) → get_or t at 0 ≡ 37 → (get_or t (at + 1) 0 == byte) ≡ true → at + 1 < length t → drop at t ≡ 37 ∷ byte ∷ drop (at + 2) t
two_split t at byte first second more =
    let next : at + 1 + 1 ≡ at + 2 = omega arith in
    drop_more t at 0 (omega (arith, more)) ∙ ap (λ b. b ∷ drop (at + 1) t) first
    ∙ ap (λ u. 37 ∷ u) (drop_more t (at + 1) 0 more ∙ ap (λ b. b ∷ drop (at + 1 + 1) t) (eqb-true _ byte second) ∙ ap (λ k. byte ∷ drop k t) next)

pub percent_split : (t : Text) (at : ℕ) → get_or t at 0 ≡ 37 → (get_or t (at + 1) 0 == 37) ≡ true → at + 1 < length t → drop at t ≡ 37 ∷ 37 ∷ drop (at + 2) t
percent_split t at = two_split t at 37

pub errno_split : (t : Text) (at : ℕ) → get_or t at 0 ≡ 37 → (get_or t (at + 1) 0 == 109) ≡ true → at + 1 < length t → drop at t ≡ errno ++ drop (at + 2) t
errno_split t at = two_split t at 109

-- what comes after an item of a text that is read from an offset on
item_there : (t : Text) (at stop : ℕ) (item : WholeItem) (first : Text) → HasText item first → drop at t ≡ first ++ drop stop t → (items : List WholeItem)
    → ReadsWhole (drop at t) items → BeginsWith item (drop stop t) items
item_there t at stop item first text split items reads = first_item item first (drop stop t) items text (subst (λ u. ReadsWhole u items) split reads)

module _ (t : Text) (at : ℕ) (less : at < length t) where
  -- a `%` and another byte are the beginning of a specification
  no_byte : (x : ℕ) (later : List WholeItem) → ReadsWhole (drop at t) (Byte x ∷ later) → get_or t at 0 ≡ 37 → (get_or t (at + 1) 0 == 37) ≢ false
  no_byte x later reads percent other =
      let twice = percent_twice x reads.1 (drop (at + 1) t) (sym (ap (λ u. u ++ reads.1) (text_there reads.0 (Byte x) reads.2)) ∙ sym reads.4
      ∙ drop_more t at 0 less ∙ ap (λ b. b ∷ drop (at + 1) t) percent) in
      bool_no (ap (λ b. b == 37) (head_at t (at + 1) 37 reads.1 twice)) other

  pub some_specification : (items : List WholeItem) → ReadsWhole (drop at t) items → get_or t at 0 ≡ 37 → (get_or t (at + 1) 0 == 37) ≡ false
      → (get_or t (at + 1) 0 == 109) ≡ false → BeginsNoneAfter Undecided (drop at t) → ⊥
  some_specification [] reads percent other letter none = omega (arith, less, ap length reads, length-drop at t)
  some_specification (Byte x ∷ later) reads percent other letter none = no_byte x later reads percent other
  some_specification (Errno ∷ later) reads percent other letter none =
      let split = sym (ap (λ u. u ++ reads.1) reads.2) ∙ sym reads.4 ∙ drop_more t at 0 less in
      bool_no (ap (λ b. b == 109) (head_at t (at + 1) 109 reads.1 (sym (ap (drop 1) split)))) letter
  some_specification (Specification s ∷ later) reads percent other letter none = none reads.0 reads.1 s reads.2.0 reads.4 (inl refl) reads.2.1

  byte_text : (get_or t at 0 == 37) ≡ false → HasText (Byte (get_or t at 0)) (get_or t at 0 ∷ [])
  byte_text other = rw other refl

  -- so it is after the first item
  pub item_byte : (get_or t at 0 == 37) ≡ false → (items : List WholeItem) → ReadsWhole (drop at t) items → IsBehindItem t items None (at + 1)
  item_byte other items reads =
      let byte = get_or t at 0 in
      let front = item_there t at (at + 1) (Byte byte) (byte ∷ []) (byte_text other) (drop_more t at 0 less) items reads in
      (Byte byte, front.later, tt, front.items_are, front.reads, omega (arith, less))

  module _ (percent : get_or t at 0 ≡ 37) where
    pub item_percent : (get_or t (at + 1) 0 == 37) ≡ true → at + 1 < length t → (items : List WholeItem) → ReadsWhole (drop at t) items
        → IsBehindItem t items None (at + 2)
    item_percent second more items reads =
        let front = item_there t at (at + 2) (Byte 37) (37 ∷ 37 ∷ []) refl (percent_split t at percent second more) items reads in
        (Byte 37, front.later, tt, front.items_are, front.reads, omega (arith, more))

    pub item_errno : (get_or t (at + 1) 0 == 109) ≡ true → at + 1 < length t → (items : List WholeItem) → ReadsWhole (drop at t) items
        → IsBehindItem t items None (at + 2)
    item_errno second more items reads =
        let front = item_there t at (at + 2) Errno errno refl (errno_split t at percent second more) items reads in
        (Errno, front.later, tt, front.items_are, front.reads, omega (arith, more))

    pub item_specification : (read : Read) (stop : ℕ) → (get_or t (at + 1) 0 == 37) ≡ false → IsSpecificationAt t at (read, stop) → (items : List WholeItem)
        → ReadsWhole (drop at t) items → IsBehindItem t items (Some read) stop
    item_specification read stop other found items reads =
        let split = parted t at stop (omega (arith, found.some)) in
        let front = item_there t at stop (Specification (specification_read read)) (take (stop - at) (drop at t)) found.spelled split items reads in
        (front.later, front.items_are, front.reads, found.within)

module _ (model : Model) (t : Text) (all done : List DirectiveSpan) (at next : ℕ) (h : IsListedTo model t all at next done) where
  abbrev After : WholeItem → ℕ → Type 0
  After (Byte x) stop = IsListedTo model t all stop next done
  After Errno stop = IsListedTo model t all stop next done
  After (Specification s) stop = IsListedTo model t all stop (next + length (fetches model s)) (done ++ directive_between model at stop next s ∷ [])

  -- an item that ends at an offset, and the specifications after it
  module _ (stop : ℕ) (within : stop ≤ length t) where
    ends : (first rest : Text) → drop at t ≡ first ++ rest → rest ≡ drop stop t → at + length first ≡ stop
    ends first rest e same = omega (arith, h.within, within, ap length e, length-append first rest, length-drop at t, ap length same, length-drop stop t)

    moved : (end fetched : ℕ) (spans : List DirectiveSpan) (rest : Text) (later : List WholeItem) (reads : ReadsWhole rest later)
        → end ≡ stop → rest ≡ drop stop t → all ≡ spans ++ directives_from model end fetched rest later reads → IsListedTo model t all stop fetched spans
    moved end fetched spans rest later reads place same are =
        let now = subst (λ u. ReadsWhole u later) same reads in
        record {
          items = later;
          reads = now;
          within = within;
          all_are = are ∙ ap (λ l. spans ++ l) (same_from model end stop fetched rest (drop stop t) later reads now place same);
        }

    after_first : (item : WholeItem) (later : List WholeItem) (reads : ReadsWhole (drop at t) (item ∷ later)) → reads.1 ≡ drop stop t
        → all ≡ done ++ directives_from model at next (drop at t) (item ∷ later) reads → After item stop
    after_first (Byte x) later reads rest e =
        moved (at + length reads.0) next done reads.1 later reads.3 (ends reads.0 reads.1 reads.4 rest) rest e
    after_first Errno later reads rest e =
        moved (at + length reads.0) next done reads.1 later reads.3 (ends reads.0 reads.1 reads.4 rest) rest e
    after_first (Specification s) later reads rest e =
        let end = at + length reads.0 in
        let place = ends reads.0 reads.1 reads.4 rest in
        let fetched = next + length (fetches model s) in
        let tail = directives_from model end fetched reads.1 later reads.3 in
        let span = directive_between model at stop next s in
        moved end fetched (done ++ span ∷ []) reads.1 later reads.3 place rest
        (e ∙ ap (λ k. done ++ directive_between model at k next s ∷ tail) place ∙ sym (append_assoc done (span ∷ []) tail))

    listed_item : (item : WholeItem) (first : Text) → HasText item first → drop at t ≡ first ++ drop stop t → After item stop
    listed_item item first text split =
        let front = item_there t at stop item first text split h.items h.reads in
        subst (λ items. (reads : ReadsWhole (drop at t) items) → all ≡ done ++ directives_from model at next (drop at t) items reads → After item stop)
        (sym front.items_are) (λ reads e. after_first item front.later reads
        (item_once item item reads.0 reads.1 first (drop stop t) (text_there reads.0 item reads.2) text (sym reads.4 ∙ split)).1 e) h.reads h.all_are

  module _ (less : at < length t) where
    pub listed_byte : (get_or t at 0 == 37) ≡ false → IsListedTo model t all (at + 1) next done
    listed_byte other =
        listed_item (at + 1) (omega (arith, less)) (Byte (get_or t at 0)) (get_or t at 0 ∷ []) (byte_text t at less other) (drop_more t at 0 less)

    module _ (percent : get_or t at 0 ≡ 37) where
      pub listed_percent : (get_or t (at + 1) 0 == 37) ≡ true → IsListedTo model t all (at + 2) next done
      listed_percent second =
          listed_item (at + 2) (omega (arith, more)) (Byte 37) (37 ∷ 37 ∷ []) refl (percent_split t at percent second more) where
            more : at + 1 < length t
            more = elim (cases_lt (at + 1) (length t)) [
              | inl l ↦ l
              | inr over ↦ absurd (bool_no second (ap (λ b. b == 37) (get_or_past t (at + 1) 0 over)))
            ]

      pub listed_errno : (get_or t (at + 1) 0 == 109) ≡ true → at + 1 < length t → IsListedTo model t all (at + 2) next done
      listed_errno second more =
          listed_item (at + 2) (omega (arith, more)) Errno errno refl (errno_split t at percent second more)

      pub listed_specification : (read : Read) (stop : ℕ) → (get_or t (at + 1) 0 == 37) ≡ false → IsSpecificationAt t at (read, stop)
          → IsListedTo model t all stop (next + length (fetches model (specification_read read)))
          (done ++ directive_between model at stop next (specification_read read) ∷ [])
      listed_specification read stop other found =
          listed_item stop found.within (Specification (specification_read read)) (take (stop - at) (drop at t)) found.spelled
          (parted t at stop (omega (arith, found.some)))

pub other_byte : (byte : ℕ) → byte ≢ 37 → (byte == 37) ≡ false
other_byte byte h = grind (arith, nat_tests)

-- all that are listed are the specifications of the text
pub has_listed : (model : Model) (t : Text) (types : List WholeArgType) (given : HasArguments model t types) (done : List DirectiveSpan)
    → done ≡ directives_from model 0 0 t given.items given.reads → HasDirectives model t done
has_listed model t types given done are = record {
  types = types;
  accepted = given;
  directives_are = are;
  typed = subst (AllByRecursion (TakesFrom types)) (sym are) (all_typed model types t given.items given.reads given.types_are);
}

-- a walk through an accepted text, whose specifications by then are at the front of a slice
pub record IsListing (model : Model) (t : Text) (walk : Walk) (fetched count : ℕ) (old new : List DirectiveSpan) : Type 0 where
  pub types : List WholeArgType
  pub given : HasArguments model t types
  pub done : List DirectiveSpan
  pub listed : IsListedTo model t (directives_from model 0 0 t given.items given.reads) walk.at fetched done
  pub over : IsWalkOver t walk
  pub count_is : count ≡ length done
  pub front : new ≡ filled old done
  pub few : count ≤ walk.at
  pub few_fetched : fetched ≤ 3 * walk.at

module _ (model : Model) (t : Text) where
  -- before the first item
  unfoldable pub listing_starts : (types : List WholeArgType) → HasArguments model t types → (walk : Walk) → IsWalkOver t walk → walk.at ≡ 0
      → (old : List DirectiveSpan)
      → IsListing model t walk 0 0 old old
  listing_starts types given walk over start old =
      let all = directives_from model 0 0 t given.items given.reads in
      record {
        types = types;
        given = given;
        done = [];
        listed = subst (λ k. IsListedTo model t all k 0 []) (sym start)
            (record { items = given.items; reads = given.reads; within = omega arith; all_are = refl });
        over = over;
        count_is = refl;
        front = sym (filled_none old);
        few = omega arith;
        few_fetched = omega arith;
      }

  module _ (walk : Walk) (fetched count : ℕ) (old new : List DirectiveSpan) (h : IsListing model t walk fetched count old new) where
    abbrev all : List DirectiveSpan
    all = directives_from model 0 0 t h.given.items h.given.reads

    module _ (end : ℕ) (low : walk.at < end) where
      -- an item that is a byte, and what a walk passes after it
      unfoldable pub listing_passed : (after : Walk) → HasPassed IsPercent (record walk { at = end }) after → IsListedTo model t all end fetched h.done
          → IsListing model t after fetched count old new
      listing_passed after passed listed =
          let now = walked t (λ k. IsListedTo model t all k fetched h.done)
          (λ k b less is other some now. listed_byte model t all h.done k fetched now less (ap (λ x. x == 37) is ∙ other_byte b other))
          (λ k less first second now. listed_percent model t all h.done k fetched now (omega (arith, less)) first (ap (λ x. x == 37) second))
          h.given.limit (record walk { at = end }) after (moved_over t walk end h.over) listed.within passed listed in
          record {
            types = h.types;
            given = h.given;
            done = h.done;
            listed = now.2;
            over = now.0;
            count_is = h.count_is;
            front = h.front;
            few = omega (arith, h.few, low, passed.from);
            few_fetched = omega (arith, h.few_fetched, low, passed.from);
          }

      -- a specification
      unfoldable pub listing_found : (read : Read) → IsListedBehind model t all walk.at fetched h.done (Some read) end
          → (span : DirectiveSpan) → span ≡ directive_between model walk.at end fetched (specification_read read)
          → (more : ℕ) → more ≡ length (fetches model (specification_read read)) → more ≤ 3
          → (put : List DirectiveSpan)
          → ((start before : List DirectiveSpan) → new ≡ filled start before → count ≡ length before → put ≡ filled start (before ++ span ∷ []))
          → IsListing model t (record walk { at = end }) (fetched + more) (count + 1) old put
      listing_found read listed span spanned more counted many put puts =
          let own = length (fetches model (specification_read read)) in
          let spanned_there = subst (λ d. IsListedTo model t all end (fetched + own) (h.done ++ d ∷ [])) (sym spanned) listed in
          record {
            types = h.types;
            given = h.given;
            done = h.done ++ span ∷ [];
            listed = subst (λ n. IsListedTo model t all end (fetched + n) (h.done ++ span ∷ [])) (sym counted) spanned_there;
            over = moved_over t walk end h.over;
            count_is = omega (arith, h.count_is, length_push h.done span);
            front = puts old h.done h.front h.count_is;
            few = omega (arith, h.few, low);
            few_fetched = omega (arith, h.few_fetched, low, many);
          }

    -- after the last item, all are listed
    pub all_listed : length t ≤ walk.at → h.done ≡ all
    all_listed over = go h.listed.items h.listed.reads h.listed.all_are where
      go : (items : List WholeItem) (reads : ReadsWhole (drop walk.at t) items)
          → all ≡ h.done ++ directives_from model walk.at fetched (drop walk.at t) items reads → h.done ≡ all
      go (item ∷ later) reads e = let no : item ∷ later ≡ [] = items_once _ (item ∷ later) [] reads (drop_all walk.at t over) in cc
      go [] reads e = sym (append-nil h.done) ∙ sym e

    pub listing_ends : length t ≤ walk.at → HasDirectiveCount model t old new count
    listing_ends over = record {
      directives = h.done;
      listed = has_listed model t h.types h.given h.done
          (all_listed over);
      count_is = h.count_is;
      front = h.front;
    }
