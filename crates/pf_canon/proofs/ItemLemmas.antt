-- What is put of the items of a text, one part after another.
use Rattle.std.proofs.Common.{◌≡◌, ◌≢◌, inl, inr, ℕ, ◌+◌, ◌*◌, ◌-◌, ◌≤◌, List, [], ◌∷◌, ◌++◌, length, take, drop, sym, ap, ap₂, ◌∙◌, subst, arith}
use Rattle.std.specs.Prelude.{Bool, true, false, get_or, refl, ◌⊎◌}
use Rattle.std.proofs.lemmas.List.{append-nil, append_assoc, length-drop, length-take, length-take-le, take_all}
use Rattle.pf_values.specs.declared.models.Model.{Model}
use Rattle.pf_values.specs.meaning.Items.{Item, Directive}
use Rattle.pf_values.specs.meaning.Text.{Text, percent}
use Rattle.pf_text.specs.Walks.{AreItems, Finds, HasPercent, IsMadeOf, IsPercent, IsWalkOver}
use Rattle.pf_text.specs.declared.walk.Walk.{Walk}
use Rattle.pf_values.specs.declared.limits.TheConstants.{MAX_TEXT_LEN}
use Rattle.pf_text.specs.FoundDirectives.{BeginsNoDirective, BeginsNoItem, IsFoundAt}
use Rattle.pf_text.specs.declared.specification.FoundDirective.{FoundDirective}
use Rattle.pf_text.proofs.NoItemLemmas.{no_item as none_there, none_at_percent}
use Rattle.pf_text.proofs.ReadingLemmas.{part_of_front}
use Rattle.pf_text.proofs.CanonicalRunLemmas.{take_front}
use Rattle.pf_canon.specs.ChangedDirectives.{PutsFront, between}
use Rattle.pf_canon.specs.Making.{IsBetweenRuns, IsMaking, IsVerbatimAfter, IsWritten, PutsItems, Writing}
use Rattle.pf_canon.specs.Sink.{IsSink}
use Rattle.pf_canon.specs.declared.limits.TheConstants.{MAX_DIRECTIVE_LEN}
use Rattle.pf_canon.proofs.PutLemmas.{between-join, between-none, nothing_between, run_follows}
use Rattle.pf_canon.proofs.WrittenLemmas.{directive_written, percents_verbatim}

-- the items from one offset up to another were put, except for the verbatim bytes from an offset between them on
abbrev pub PutsUpTo : {S : Type 0} → (S → S → Text → Type 0) → Writing → Text → ℕ → S → S → ℕ → ℕ → Type 0
PutsUpTo given written text first old new start at = (more : Text) × given old new more × ((before out : Text) → written before out 0
    → written (before ++ between first at text) ((out ++ more) ++ between start at text) 0)

-- what items of the profile settle is written as it is in the profile
abbrev pub Extends : Model → Writing → Type 0
Extends model written = (t put : Text) (held still : ℕ)
    → ((before out : Text) → IsWritten model before out held → IsWritten model (before ++ t) (out ++ put) still)
    → (before out : Text) → written before out held → written (before ++ t) (out ++ put) still

module _ {S : Type 0} {given : S → S → Text → Type 0} (laws : IsSink given) (written : Writing) (text : Text) where
  -- nothing was put
  pub none_put : (s : S) (at : ℕ) → PutsItems given written s s (between at at text) 0 0
  none_put s at = (
    [],
    laws.none s,
    λ before out h. subst (λ t. written (before ++ t) (out ++ []) 0) (sym (between-none text at)) (rw (append-nil before, append-nil out) h),
  )

  -- and one part after another
  pub both_put : (old mid new : S) (start at stop held now still : ℕ) → start ≤ at → at ≤ stop
      → PutsItems given written old mid (between start at text) held now
      → PutsItems given written mid new (between at stop text) now still → PutsItems given written old new (between start stop text) held still
  both_put old mid new start at stop held now still low high (a, first, f) (b, then, g) = (
    a ++ b,
    laws.both old mid new a b first then,
    λ before out h.
        let x = between start at text in
        let y = between at stop text in
        subst (λ t. written (before ++ t) (out ++ (a ++ b)) still) (between-join text start at stop low high)
        (subst (λ t. written t (out ++ (a ++ b)) still) (append_assoc before x y)
        (subst (λ u. written ((before ++ x) ++ y) u still) (append_assoc out a b) (g (before ++ x) (out ++ a) (f before out h)))),
  )

  -- these go out
  pub rest_put : (old mid new : S) (first start at : ℕ) → PutsUpTo given written text first old mid start at → given mid new (between start at text)
      → PutsItems given written old new (between first at text) 0 0
  rest_put old mid new first start at (more, put, f) last =
      let left = between start at text in (
        more ++ left,
        laws.both old mid new more left put last,
        λ before out h. subst (λ u. written (before ++ between first at text) u 0) (append_assoc out more left) (f before out h),
      )

  -- a run follows that needs no change
  pub run_left : (old new : S) (first start at stop : ℕ) → first ≤ at → start ≤ at → at ≤ stop → IsVerbatimAfter written 0 (between at stop text)
      → PutsUpTo given written text first old new start at → PutsUpTo given written text first old new start stop
  run_left old new first start at stop from low high run (more, put, f) = (
    more,
    put,
    λ before out h. run_follows written text before first start at stop (out ++ more) from low high (f before out h) run,
  )

  -- nothing is left
  pub none_left : (old new : S) (first at : ℕ) → PutsItems given written old new (between first at text) 0 0 → PutsUpTo given written text first old new at at
  none_left old new first at (more, put, f) = (
    more,
    put,
    λ before out h. subst (λ u. written (before ++ between first at text) u 0) (sym (nothing_between (out ++ more) text at)) (f before out h),
  )

  -- nothing is put of a first run
  pub run_first : (s : S) (first at : ℕ) → IsVerbatimAfter written 0 (between first at text) → PutsUpTo given written text first s s first at
  run_first s first at run = ([], laws.none s, λ before out h. rw (append-nil out) (run before out h))

  module _ (model : Model) (extends : Extends model written) where
    -- a directive is put with what is left before it
    pub front_put : (old mid new : S) (first start at next stop : ℕ) → first ≤ at → at ≤ stop → PutsUpTo given written text first old mid start at
        → PutsFront given model text start at mid new next stop → PutsUpTo given written text first old new next stop
    front_put old mid new first start at next stop low high (a, put, f) (b, then, (spelled, e, step)) = (
      a ++ b,
      laws.both old mid new a b put then,
      λ before out h.
          let x = between first at text in
          let y = between at stop text in
          let left = between start at text in
          let rest = between next stop text in
          let order : ((out ++ a) ++ left) ++ spelled ≡ (out ++ (a ++ b)) ++ rest =
          append_assoc (out ++ a) left spelled ∙ ap (λ t. (out ++ a) ++ t) e ∙ sym (append_assoc (out ++ a) b rest)
          ∙ ap (λ t. t ++ rest) (append_assoc out a b) in
          subst (λ t. written (before ++ t) ((out ++ (a ++ b)) ++ rest) 0) (between-join text first at stop low high)
          (subst (λ t. written t ((out ++ (a ++ b)) ++ rest) 0) (append_assoc before x y)
          (subst (λ u. written ((before ++ x) ++ y) u 0) order
          (extends y spelled 0 0 step (before ++ x) ((out ++ a) ++ left) (f before out h)))),
    )

    -- and so are items of the profile
    pub items_put : (old new : S) (t : Text) (held still : ℕ) → PutsItems given (IsWritten model) old new t held still
        → PutsItems given written old new t held still
    items_put old new t held still (more, put, step) = (more, put, extends t more held still step)

module _ {S : Type 0} (given : S → S → Text → Type 0) (model : Model) (text : Text) where
  -- a directive
  pub directive_put : (old new : S) (at : ℕ) (found : FoundDirective) (held still : ℕ) (settled : Text) → given old new settled → IsFoundAt text at found
      → still ≤ held + 1 → length settled + 4 * still ≤ 4 * held + MAX_DIRECTIVE_LEN
      → ((out : Text) (items rest : List Item) → IsMaking model out held items (Directive found.directive ∷ rest)
      → IsMaking model (out ++ settled) still items rest)
      → PutsItems given (IsWritten model) old new (between at found.stop text) held still
  directive_put old new at found held still settled put there one short settles = (
    settled,
    put,
    λ before out h. directive_written model before out (between at found.stop text) settled held still found.directive h there.read
        (omega (
          arith,
          one,
          there.some,
          length-take-le (found.stop - at) (drop at text) (omega (arith, there.some, there.within, length-drop at text)),
        )) short (λ items. settles out items []),
  )

  -- literal bytes and `%%`
  pub percents_put : (old new : S) (at stop held : ℕ) → given old new (between at stop text) → IsMadeOf (AreItems IsPercent) (between at stop text)
      → PutsItems given (IsWritten model) old new (between at stop text) held held
  percents_put old new at stop held put run = (between at stop text, put, percents_verbatim model held (between at stop text) run)

-- the bytes up to an offset
pub front_is : (text : Text) (at : ℕ) → between 0 at text ≡ take at text
front_is text at = ap (λ n. take n text) (omega arith)

-- the front of a walk's text is the front of the text
pub front_of_walk : (text : Text) (walk : Walk) → IsWalkOver text walk → (at : ℕ) → at ≤ length walk.text.now
    → (between 0 at walk.text.now ≡ take at text) × (at ≤ length text) × (at ≤ MAX_TEXT_LEN)
front_of_walk text walk over at within =
    let all : at - 0 ≡ at = omega arith in
    let low : at ≤ length (take MAX_TEXT_LEN text) = subst (λ u. at ≤ length u) over.text_is within in
    let few = length-take MAX_TEXT_LEN text in (
      ap₂ take all over.text_is ∙ take_front at MAX_TEXT_LEN text low,
      omega (arith, low, few),
      omega (arith, low, few),
    )

-- all of it, if that isn't too long
pub all_of_it : (t : Text) (walk : Walk) → IsWalkOver t walk → length t ≤ MAX_TEXT_LEN → walk.text.now ≡ t
all_of_it t walk over few = over.text_is ∙ take_all MAX_TEXT_LEN t few

-- and so are the bytes between two offsets
pub walk_between : (text : Text) (walk : Walk) → IsWalkOver text walk → (start stop : ℕ) → start ≤ stop → stop ≤ length walk.text.now
    → between start stop walk.text.now ≡ between start stop text
walk_between text walk over start stop low within =
    ap (between start stop) over.text_is ∙ part_of_front text MAX_TEXT_LEN start stop low (subst (λ t. stop ≤ length t) over.text_is within)

-- and if it is all of it, the text isn't too long
pub all_of_walk : (text : Text) (walk : Walk) → IsWalkOver text walk → (at : ℕ) → at ≤ length walk.text.now → length text ≤ at
    → (between 0 at walk.text.now ≡ text) × (length text ≤ MAX_TEXT_LEN)
all_of_walk text walk over at within whole =
    let front = front_of_walk text walk over at within in
    (front.0 ∙ take_all at text whole, omega (arith, front.2, whole))

-- where no directive begins, nor a literal byte or `%%`, no item does
pub no_item : (t : Text) (at : ℕ) → IsBetweenRuns t at → BeginsNoDirective (drop at t) → BeginsNoItem (drop at t)
no_item t at (inl none) h = none
no_item t at (inr other) h = none_at_percent t at other.0 other.1 h

-- where a walk has stopped
pub run_next : (passes : Text → Type 0) (leaves : ℕ → Type 0) (old new : Walk) (found : Bool) → Finds passes leaves old new found
    → BeginsNoItem (drop new.at old.text.now) ⊎ (HasPercent old.text.now new.at × leaves (get_or old.text.now (new.at + 1) 0))
run_next passes leaves old new true h =
    inr (subst (λ t. HasPercent t new.at × leaves (get_or t (new.at + 1) 0)) h.passed.text (h.stopped refl))
run_next passes leaves old new false h = inl (subst (λ t. BeginsNoItem (drop new.at t)) h.passed.text (none_there new.text.now new.at (h.ended refl)))

-- after what is canonical neither literal bytes nor `%%` begin
pub next_run : (leaves : ℕ → Type 0) (t : Text) (at : ℕ)
    → BeginsNoItem (drop at t) ⊎ (HasPercent t at × ((get_or t (at + 1) 0 ≢ percent) × leaves (get_or t (at + 1) 0))) → IsBetweenRuns t at
next_run leaves t at (inl none) = inl none
next_run leaves t at (inr (there, other)) = inr (there, other.0)
