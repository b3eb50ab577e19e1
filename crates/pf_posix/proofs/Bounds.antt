-- What is fetched: its numbers are within the limits, and the arguments of the specifications of a text have their types in its list.
use Rattle.std.proofs.Common.{◌≡◌, ℕ, ◌<◌, ◌≤◌, List, [], ◌∷◌, ◌++◌, subst, ◌+◌, ◌-◌, length, map, refl, sym, ap, ◌∙◌, arith, inl, inr}
use Rattle.std.specs.Prelude.{Option, Some, None, slice_get}
use Rattle.std.specs.List.{AllByRecursion}
use Rattle.std.proofs.lemmas.List.{append_assoc, length_push}
use Rattle.pf_values.specs.declared.flags.FlagSet.{FlagSet}
use Rattle.pf_values.specs.declared.limits.TheConstants.{MAX_NUMBER}
use Rattle.pf_values.specs.declared.models.Model.{Model}
use Rattle.pf_values.specs.meaning.Text.{Text}
use Rattle.pf_posix.specs.declared.fetches.Fetch.{Fetch}
use Rattle.pf_posix.specs.declared.types.WholeArgType.{WholeArgType}
use Rattle.pf_posix.specs.Items.{Byte, Errno, ReadsWhole, Specification, WholeItem, fetched}
use Rattle.pf_posix.specs.Specifications.{Amount, Fetched, WholeSpecification}
use Rattle.pf_posix.specs.Spelling.{SpellsUpToPrecision, SpellsWholePrecision, SpellsPositive, SpellsPosition, SpellsWhole, SpellsWholeWidth, SpellsStar}
use Rattle.pf_posix.specs.Types.{conversion_type, fetch, fetches, int_type, star_fetches, HaveTypes, HasTypeIn}
use Rattle.pf_posix.specs.Directives.{TakesFrom, TakesInt, argument_index, directives_from, star_index}

-- the number of an argument is one of those that there are
abbrev pub IsWithin : Fetch → Type 0
IsWithin f = (n : ℕ) → f.number ≡ Some n → (0 < n) × (n ≤ MAX_NUMBER)

pub all_append : {X : Type 0} (P : X → Type 0) (xs ys : List X) → AllByRecursion P xs → AllByRecursion P ys → AllByRecursion P (xs ++ ys)
all_append P [] ys h g = g
all_append P (x ∷ xs) ys h g = (h.0, all_append P xs ys h.1 g)

-- a number that is spelled
number_within : (t : Text) (n : ℕ) (type : WholeArgType) → SpellsPositive t n → IsWithin (fetch (Some n) type)
number_within t n type s m e = let same : n ≡ m = cc in (subst (λ k. 0 < k) same s.some, subst (λ k. k ≤ MAX_NUMBER) same s.within)

position_within : (t : Text) (number : Option ℕ) (type : WholeArgType) → SpellsPosition t number → IsWithin (fetch number type)
position_within t None type s = λ m e. cc
position_within t (Some n) type s = number_within s.0 n type s.1

-- what holds of the argument of each `*`
module _ (P : Fetch → Type 0) (position : Option ℕ) (star : (t : Text) (number : Option ℕ) → SpellsStar t position number → P (fetch number int_type)) where
  pub width_fetches : (t : Text) (width : Option Amount) → SpellsWholeWidth t position width → AllByRecursion P (star_fetches width)
  width_fetches t (Some (Fetched number)) s = (star t number s, tt)
  width_fetches t _ s = tt

  precision_fetches : (t : Text) (precision : Option Amount) → SpellsWholePrecision t position precision → AllByRecursion P (star_fetches precision)
  precision_fetches t (Some (Fetched number)) s = (star s.0 number s.1, tt)
  precision_fetches t _ s = tt

  pub stars_fetch : (t : Text) (set : FlagSet) (width precision : Option Amount) → SpellsUpToPrecision t position set width precision
      → AllByRecursion P (star_fetches width ++ star_fetches precision)
  stars_fetch t set width precision h = all_append P (star_fetches width) (star_fetches precision)
      (width_fetches h.before_is.text width h.before_is.width_is) (precision_fetches h.text precision h.precision_is)

spelled_within : (model : Model) (t : Text) (s : WholeSpecification) → SpellsWhole t s → AllByRecursion IsWithin (fetches model s)
spelled_within model t s h =
    let numbers = h.before_is in
    let flags = numbers.before_is.before_is in
    all_append IsWithin (star_fetches s.width ++ star_fetches s.precision) _ (stars_fetch IsWithin s.position
    (λ t number star. position_within star.digits number int_type star.digits_are) h.before s.flags s.width s.precision numbers)
    (position_within flags.number s.position (conversion_type model s.modifier s.conversion) flags.number_is, tt)

-- what items fetch
pub items_within : (model : Model) (t : Text) (items : List WholeItem) → ReadsWhole t items → AllByRecursion IsWithin (fetched model items)
items_within model t [] h = tt
items_within model t (Byte b ∷ items) h = items_within model h.1 items h.3
items_within model t (Errno ∷ items) h = items_within model h.1 items h.3
items_within model t (Specification s ∷ items) h = all_append IsWithin (fetches model s) (fetched model items) (spelled_within model h.0 s h.2.0)
    (items_within model h.1 items h.3)

-- each fetch has its type at its index
abbrev AreAt : List WholeArgType → ℕ → List Fetch → Type 0
AreAt types next [] = Unit {0}
AreAt types next (f ∷ fs) = (slice_get types (argument_index f.number next) ≡ Some f.wanted) × AreAt types (next + 1) fs

ordered_at : (types : List WholeArgType) (before after : List Fetch) → types ≡ map (λ f. f.wanted) (before ++ after)
    → AllByRecursion (λ f. f.number ≡ None) after → AreAt types (length before) after
ordered_at types before [] e h = tt
ordered_at types before (f ∷ after) e h = (
  ap (λ o. slice_get types (argument_index o (length before))) h.0 ∙ ap (λ ts. slice_get ts (length before)) e ∙ here before,
  subst (λ n. AreAt types n after) (length_push before f) (ordered_at types (before ++ f ∷ []) after
      (e ∙ ap (map (λ f. f.wanted)) (sym (append_assoc before (f ∷ []) after))) h.1),
) where
  here : (before : List Fetch) → slice_get (map (λ f. f.wanted) (before ++ f ∷ after)) (length before) ≡ Some f.wanted
  here [] = refl
  here (g ∷ before) = here before

numbered_at : (types : List WholeArgType) (next : ℕ) (fs : List Fetch) → AllByRecursion (HasTypeIn types) fs → AreAt types next fs
numbered_at types next [] h = tt
numbered_at types next (f ∷ fs) h = (
  ap (λ o. slice_get types (argument_index o next)) h.0.1 ∙ ap (slice_get types) (same h.0.0) ∙ h.0.2,
  numbered_at types (next + 1) fs h.1,
) where
  same : (n : ℕ) → n + 1 - 1 ≡ n
  same n = omega arith

are_at : (types : List WholeArgType) (fs : List Fetch) → HaveTypes fs types → AreAt types 0 fs
are_at types fs (inl h) = ordered_at types [] fs h.types_are h.unnumbered
are_at types fs (inr h) = numbered_at types 0 fs h.each

at_front : (types : List WholeArgType) (next : ℕ) (fs gs : List Fetch) → AreAt types next (fs ++ gs) → AreAt types next fs
at_front types next [] gs h = tt
at_front types next (f ∷ fs) gs h = (h.0, at_front types (next + 1) fs gs h.1)

at_back : (types : List WholeArgType) (next : ℕ) (fs gs : List Fetch) → AreAt types next (fs ++ gs) → AreAt types (next + length fs) gs
at_back types next [] gs h = let same : next ≡ next + 0 = omega arith in subst (λ n. AreAt types n gs) same h
at_back types next (f ∷ fs) gs h =
    let same : next + 1 + length fs ≡ next + length (f ∷ fs) = omega arith in
    subst (λ n. AreAt types n gs) same (at_back types (next + 1) fs gs h.1)

star_at : (types : List WholeArgType) (next : ℕ) (amount : Option Amount) → AreAt types next (star_fetches amount) → TakesInt types (star_index amount next)
star_at types next (Some (Fetched number)) h = h.0
star_at types next _ h = tt

module _ (model : Model) (types : List WholeArgType) where
  typed_from : (at next : ℕ) (t : Text) (items : List WholeItem) (reads : ReadsWhole t items) → AreAt types next (fetched model items)
      → AllByRecursion (TakesFrom types) (directives_from model at next t items reads)
  typed_from at next t [] reads h = tt
  typed_from at next t (Byte byte ∷ items) reads h = typed_from (at + length reads.0) next reads.1 items reads.3 h
  typed_from at next t (Errno ∷ items) reads h = typed_from (at + length reads.0) next reads.1 items reads.3 h
  typed_from at next t (Specification s ∷ items) reads h =
      let stars = star_fetches s.width ++ star_fetches s.precision in
      let last = fetch s.position (conversion_type model s.modifier s.conversion) in
      let own = at_front types next (fetches model s) (fetched model items) h in
      let both = at_front types next stars (last ∷ []) own in (
        record {
          converted = (at_back types next stars (last ∷ []) own).0;
          width = star_at types next s.width (at_front types next (star_fetches s.width) (star_fetches s.precision) both);
          precision = star_at types (next + length (star_fetches s.width)) s.precision
              (at_back types next (star_fetches s.width) (star_fetches s.precision) both);
        },
        typed_from (at + length reads.0) (next + length (fetches model s)) reads.1 items reads.3 (at_back types next (fetches model s) (fetched model items) h),
      )

  pub all_typed : (t : Text) (items : List WholeItem) (reads : ReadsWhole t items) → HaveTypes (fetched model items) types
      → AllByRecursion (TakesFrom types) (directives_from model 0 0 t items reads)
  all_typed t items reads h = typed_from 0 0 t items reads (are_at types (fetched model items) h)
