-- What a loop over the calls of two texts keeps: the calls that they have in common, before what is left of both.
use Rattle.std.proofs.Common.{◌≡◌, ◌≢◌, ℕ, ◌≤◌, List, [], ◌∷◌, ◌++◌, drop, length, refl, sym, ap, ap₂, ◌∙◌, arith, subst, inr}
use Rattle.std.specs.Prelude.{None, Some, min}
use Rattle.std.proofs.lemmas.List.{append_assoc}
use Rattle.pf_values.specs.declared.models.Model.{Model}
use Rattle.pf_values.specs.meaning.Items.{Item}
use Rattle.pf_values.specs.meaning.Text.{Text}
use Rattle.pf_posix.specs.Opaque.{OpaqueItem}
use Rattle.pf_posix.specs.OpaqueParts.{item_of_opaque}
use Rattle.pf_posix.specs.Stretches.{Stretches, Last, Before, ReadsStretches}
use Rattle.pf_posix.proofs.ReadOnce.{read_once}
use Rattle.pf_whole.specs.declared.calls.PlacedOpaque.{PlacedOpaque}
use Rattle.pf_whole.specs.declared.calls.Rest.{Rest}
use Rattle.pf_whole.specs.Answers.{CallsDifferAt}
use Rattle.pf_whole.specs.Calls.{CallsDiffer, IsCallNext, IsNextCall}
use Rattle.pf_whole.specs.meaning.NormalSpellings.{normal_spelling}
use Rattle.pf_whole.specs.meaning.Traces.{PlacedCall, placed_calls}
use Rattle.pf_whole.proofs.CallLemmas.{after_same}
use Rattle.pf_whole.proofs.HeadLemmas.{first_items}

pub record IsCallsUpTo (model : Model) (t u : Text) (one two : Rest) : Type 0 where
  pub a : Stretches
  pub b : Stretches
  pub left : Stretches
  pub more : Stretches
  pub done : List PlacedCall
  pub first : ReadsStretches t a
  pub second : ReadsStretches u b
  pub left_reads : ReadsStretches (drop one.at t) left
  pub more_reads : ReadsStretches (drop two.at u) more
  pub within : one.at ≤ length t
  pub within_other : two.at ≤ length u
  pub few : one.index ≤ one.at
  pub few_other : two.index ≤ two.at
  pub calls_are : placed_calls model 0 a ≡ done ++ placed_calls model one.index left
  pub others_are : placed_calls model 0 b ≡ done ++ placed_calls model two.index more

-- the call of a directive or of `%m` at an index
abbrev pub call_at : Model → ℕ → OpaqueItem → PlacedCall
call_at model index other = record { index = index; spelling = normal_spelling model other }

abbrev pub call_of : Model → PlacedOpaque → PlacedCall
call_of model call = call_at model call.index (item_of_opaque call.opaque)

-- what comes next, of one text
pub record IsNextOf (model : Model) (t : Text) (left : Stretches) (rest : Rest) (call : PlacedOpaque) (after : Rest) : Type 0 where
  pub items : List Item
  pub later : Stretches
  pub left_is : left ≡ Before items (item_of_opaque call.opaque) later
  pub is : IsCallNext model t items (item_of_opaque call.opaque) later rest call after
  pub calls_are : placed_calls model rest.index left ≡ call_of model call ∷ placed_calls model after.index later

pub next_of : (model : Model) (t : Text) (left : Stretches) (rest : Rest) (call : PlacedOpaque) (after : Rest)
    → IsNextCall model t left rest (Some (call, after))
    → IsNextOf model t left rest call after
next_of model t (Last items) rest call after h = absurd h
next_of model t (Before items s later) rest call after h =
    let same = sym h.item_is in
    record {
      items = items;
      later = later;
      left_is = ap (λ p. Before items p later) same;
      is = subst (λ p. IsCallNext model t items p later rest call after) same h;
      calls_are = ap₂ (λ c l. c ∷ l) (ap₂ (call_at model) (sym h.index_is) same) (ap (λ n. placed_calls model n later) (sym h.after_is));
    }

-- no call is left: the last stretch
pub last_of : (model : Model) (t : Text) (left : Stretches) (rest : Rest) → IsNextCall model t left rest None → left ≡ Last (first_items left)
last_of model t (Last items) rest h = refl
last_of model t (Before items s later) rest h = absurd h

pub no_next : (model : Model) (t : Text) (left : Stretches) (rest : Rest) → IsNextCall model t left rest None → placed_calls model rest.index left ≡ []
no_next model t (Last items) rest h = refl
no_next model t (Before items s later) rest h = absurd h

-- the answer for what is left of both texts is the answer for the texts
told : (model : Model) (t u : Text) (one two : Rest) (index : ℕ) (calls others : List PlacedCall) → (h : IsCallsUpTo model t u one two)
    → placed_calls model one.index h.left ≡ calls → placed_calls model two.index h.more ≡ others → CallsDifferAt calls others index
    → CallsDiffer model t u (Some index)
told model t u one two index calls others h e f is a b k l =
    let first : h.done ++ calls ≡ placed_calls model 0 a =
    sym (h.calls_are ∙ ap (λ l. h.done ++ l) e) ∙ ap (placed_calls model 0) (read_once t h.a a h.first k) in
    let second : h.done ++ others ≡ placed_calls model 0 b =
    sym (h.others_are ∙ ap (λ l. h.done ++ l) f) ∙ ap (placed_calls model 0) (read_once u h.b b h.second l) in
    subst (λ x. CallsDifferAt x (placed_calls model 0 b) index) first
    (subst (λ x. CallsDifferAt (h.done ++ calls) x index) second (after_same h.done calls others index is))

module _ (model : Model) (t u : Text) (one two : Rest) where
  -- only the first text has a call left
  pub first_goes_on : (call : PlacedOpaque) (after : Rest) → (h : IsCallsUpTo model t u one two)
      → IsNextCall model t h.left one (Some (call, after)) → IsNextCall model u h.more two None → CallsDiffer model t u (Some call.index)
  first_goes_on call after h next none =
      let first = next_of model t h.left one call after next in
      told model t u one two call.index (call_of model call ∷ placed_calls model after.index first.later) [] h first.calls_are (no_next model u h.more two none)
      refl

  -- only the second one has
  pub second_goes_on : (call : PlacedOpaque) (after : Rest) → (h : IsCallsUpTo model t u one two)
      → IsNextCall model t h.left one None → IsNextCall model u h.more two (Some (call, after)) → CallsDiffer model t u (Some call.index)
  second_goes_on call after h none next =
      let second = next_of model u h.more two call after next in
      told model t u one two call.index [] (call_of model call ∷ placed_calls model after.index second.later) h (no_next model t h.left one none)
      second.calls_are refl

  -- both have one
  module _ (call other : PlacedOpaque) (after behind_other : Rest) (h : IsCallsUpTo model t u one two)
      (next : IsNextCall model t h.left one (Some (call, after))) (also : IsNextCall model u h.more two (Some (other, behind_other))) where
    first : IsNextOf model t h.left one call after
    first = next_of model t h.left one call after next

    second : IsNextOf model u h.more two other behind_other
    second = next_of model u h.more two other behind_other also

    -- and these differ
    pub calls_apart : (index : ℕ) → index ≡ min call.index other.index → call_of model call ≢ call_of model other → CallsDiffer model t u (Some index)
    calls_apart index least unlike =
        told model t u one two index (call_of model call ∷ placed_calls model after.index first.later)
        (call_of model other ∷ placed_calls model behind_other.index second.later) h first.calls_are second.calls_are (inr (unlike, least))

    -- or are the same
    pub both_call : call_of model call ≡ call_of model other → IsCallsUpTo model t u after behind_other
    both_call same =
        let c = call_of model call in
        let join : (rest : List PlacedCall) → h.done ++ (c ∷ rest) ≡ (h.done ++ c ∷ []) ++ rest = λ rest. sym (append_assoc h.done (c ∷ []) rest) in
        record {
          a = h.a;
          b = h.b;
          left = first.later;
          more = second.later;
          done = h.done ++ c ∷ [];
          first = h.first;
          second = h.second;
          left_reads = first.is.reads;
          more_reads = second.is.reads;
          within = first.is.within;
          within_other = second.is.within;
          few = first.is.few;
          few_other = second.is.few;
          calls_are = h.calls_are ∙ ap (λ l. h.done ++ l) first.calls_are ∙ join (placed_calls model after.index first.later);
          others_are = h.others_are ∙ ap (λ l. h.done ++ l) (second.calls_are ∙ ap (λ x. x ∷ placed_calls model behind_other.index second.later) (sym same))
              ∙ join (placed_calls model behind_other.index second.later);
        }

  -- both end
  pub calls_together : (h : IsCallsUpTo model t u one two) → IsNextCall model t h.left one None
      → IsNextCall model u h.more two None → CallsDiffer model t u None
  calls_together h none also a b k l =
      let first = h.calls_are ∙ ap (λ x. h.done ++ x) (no_next model t h.left one none) in
      let second = h.others_are ∙ ap (λ x. h.done ++ x) (no_next model u h.more two also) in
      ap (placed_calls model 0) (sym (read_once t h.a a h.first k)) ∙ first ∙ sym second ∙ ap (placed_calls model 0) (read_once u h.b b h.second l)

pub calls_from_start : (model : Model) (t u : Text) (a b : Stretches) → ReadsStretches t a → ReadsStretches u b
    → IsCallsUpTo model t u (record { at = 0; index = 0 }) (record { at = 0; index = 0 })
calls_from_start model t u a b h g = record {
  a = a;
  b = b;
  left = a;
  more = b;
  done = [];
  first = h;
  second = g;
  left_reads = h;
  more_reads = g;
  within = omega arith;
  within_other = omega arith;
  few = omega arith;
  few_other = omega arith;
  calls_are = refl;
  others_are = refl;
}

abbrev placed : ℕ → Text → PlacedCall
placed index spelling = record { index = index; spelling = spelling }

pub placed_same : (m n : ℕ) (x y : Text) → m ≡ n → x ≡ y → placed m x ≡ placed n y
placed_same m n x y e f = ap₂ placed e f
