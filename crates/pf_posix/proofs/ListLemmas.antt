-- Lists of types and of specifications, and the slices that they are written into.
use Rattle.std.proofs.Common.{◌≡◌, ℕ, suc, ◌<◌, ◌≤◌, List, [], ◌∷◌, ◌++◌, length, set, refl, sym, ap, arith, ◌+◌, length-append, ap₂, ◌∙◌, subst}
use Rattle.pf_values.specs.declared.models.Model.{Model}
use Rattle.pf_values.specs.meaning.Text.{Text}
use Rattle.pf_posix.specs.Laws.{filled, HasCount}
use Rattle.pf_posix.specs.declared.directive_spans.DirectiveSpan.{DirectiveSpan}
use Rattle.pf_posix.specs.Directives.{HasDirectives, directive_between, directives_from, HasDirectiveCount}
use Rattle.pf_posix.specs.Items.{Byte, Errno, WholeItem, ReadsWhole, Specification, IsWholeReadAs, HasArguments}
use Rattle.pf_posix.specs.Types.{fetches}
use Rattle.pf_posix.specs.declared.types.WholeArgType.{WholeArgType}
use Rattle.pf_posix.proofs.ItemsOnce.{item_once, items_once, text_there}
use Rattle.pf_posix.proofs.Unique.{one_list}

-- the places of a slice
pub length_filled : {X : Type 0} (old more : List X) → length (filled old more) ≡ length old
length_filled [] more = refl
length_filled (o ∷ old) [] = refl
length_filled (o ∷ old) (x ∷ more) = ap suc (length_filled old more)

pub filled_none : {X : Type 0} (old : List X) → filled old [] ≡ old
filled_none [] = refl
filled_none (o ∷ old) = refl

pub filled_set : {X : Type 0} (old more : List X) (x : X) → length more < length old → set (filled old more) (length more) x ≡ filled old (more ++ x ∷ [])
filled_set [] more x less = absurd (omega arith)
filled_set (o ∷ old) [] x less = ap (λ l. x ∷ l) (sym (filled_none old))
filled_set (o ∷ old) (y ∷ more) x less = ap (λ l. y ∷ l) (filled_set old more x (omega (arith, less)))

pub filled_full : {X : Type 0} (old before more : List X) → length old ≤ length before → filled old before ≡ filled old (before ++ more)
filled_full [] before more full = refl
filled_full (o ∷ old) [] more full = absurd (omega arith)
filled_full (o ∷ old) (y ∷ before) more full = ap (λ l. y ∷ l) (filled_full old before more (omega (arith, full)))

-- the same item ends at the same offset
pub ends : (at from : ℕ) (item : WholeItem) (first rest other more : Text) → IsWholeReadAs first item → IsWholeReadAs other item → at ≡ from
    → first ++ rest ≡ other ++ more → (at + length first ≡ from + length other) × (rest ≡ more)
ends at from item first rest other more h k a e =
    let same = (item_once item item first rest other more (text_there first item h) (text_there other item k) e).1 in
    (omega (arith, a, ap length e, length-append first rest, length-append other more, ap length same), same)

module _ (model : Model) where
  pub same_from : (at from next : ℕ) (t u : Text) (items : List WholeItem) (h : ReadsWhole t items) (k : ReadsWhole u items) → at ≡ from → t ≡ u
      → directives_from model at next t items h ≡ directives_from model from next u items k
  same_from at from next t u [] h k a e = refl
  same_from at from next t u (Byte x ∷ items) h k a e =
      let same = ends at from (Byte x) h.0 h.1 k.0 k.1 h.2 k.2 a (sym h.4 ∙ e ∙ k.4) in
      same_from (at + length h.0) (from + length k.0) next h.1 k.1 items h.3 k.3 same.0 same.1
  same_from at from next t u (Errno ∷ items) h k a e =
      let same = ends at from Errno h.0 h.1 k.0 k.1 h.2 k.2 a (sym h.4 ∙ e ∙ k.4) in
      same_from (at + length h.0) (from + length k.0) next h.1 k.1 items h.3 k.3 same.0 same.1
  same_from at from next t u (Specification s ∷ items) h k a e =
      let same = ends at from (Specification s) h.0 h.1 k.0 k.1 h.2 k.2 a (sym h.4 ∙ e ∙ k.4) in
      ap₂ (λ d l. d ∷ l) (ap₂ (λ begin stop. directive_between model begin stop next s) a same.0)
      (same_from (at + length h.0) (from + length k.0) (next + length (fetches model s)) h.1 k.1 items h.3 k.3 same.0 same.1)

  pub directives_once : (t : Text) (ds es : List DirectiveSpan) → HasDirectives model t ds → HasDirectives model t es → ds ≡ es
  directives_once t ds es h k =
      let same = items_once t h.accepted.items k.accepted.items h.accepted.reads k.accepted.reads in
      h.directives_are
      ∙ subst (λ items. (reads : ReadsWhole t items) → directives_from model 0 0 t h.accepted.items h.accepted.reads ≡ directives_from model 0 0 t items reads)
      same (λ reads. same_from 0 0 0 t t h.accepted.items h.accepted.reads reads refl refl) k.accepted.reads ∙ sym k.directives_are

pub all_filled : {X : Type 0} (old all : List X) → length old ≡ length all → filled old all ≡ all
all_filled [] [] e = refl
all_filled [] (x ∷ all) e = absurd (omega (arith, e))
all_filled (o ∷ old) [] e = absurd (omega (arith, e))
all_filled (o ∷ old) (x ∷ all) e = ap (λ l. x ∷ l) (all_filled old all (omega (arith, e)))

-- the count of one reading is the room of the next
room_taken : {X : Type 0} (old all again new : List X) (count : ℕ) → count ≡ length all → all ≡ again → length old ≡ count → new ≡ filled old again
    → new ≡ again
room_taken old all again new count counted same room front = front ∙ all_filled old again (room ∙ counted ∙ ap length same)

pub all_there : (model : Model) (t : Text) (none made old new : List WholeArgType) (count again : ℕ) → HasCount model t none made count → length old ≡ count
    → HasCount model t old new again → HasArguments model t new
all_there model t none made old new count again first room second =
    let same = one_list model t first.types second.types first.accepted second.accepted in
    subst (HasArguments model t) (sym (room_taken old first.types second.types new count first.count_is same room second.front)) second.accepted

pub all_listed : (model : Model) (t : Text) (none made old new : List DirectiveSpan) (count again : ℕ) → HasDirectiveCount model t none made count
    → length old ≡ count → HasDirectiveCount model t old new again → HasDirectives model t new
all_listed model t none made old new count again first room second =
    let same = directives_once model t first.directives second.directives first.listed second.listed in
    subst (HasDirectives model t) (sym (room_taken old first.directives second.directives new count first.count_is same room second.front)) second.listed
