-- The beginning of a specification, by its parts and by states.
use Rattle.std.proofs.Common.{◌≡◌, ◌≢◌, ℕ, true, List, [], ◌∷◌, ◌++◌, refl, sym, ap, ◌∙◌, arith, subst, inl, inr}
use Rattle.std.specs.Prelude.{Option, Some, None, is_some, ◌⊎◌}
use Rattle.std.proofs.lemmas.List.{append-nil}
use Rattle.pf_values.specs.declared.flags.FlagSet.{FlagSet}
use Rattle.pf_values.specs.declared.lengths.Length.TheVariants as lengths
use Rattle.pf_values.specs.declared.refusals.RefusalKind.{RefusalKind}
use Rattle.pf_values.specs.declared.refusals.RefusalKind.TheVariants.{WidthTooLarge, PrecisionTooLarge}
use Rattle.pf_values.specs.meaning.Flags.{no_flags}
use Rattle.pf_values.specs.meaning.Text.{Text}
use Rattle.pf_posix.specs.declared.conversions.WholeLength.{WholeLength}
use Rattle.pf_posix.specs.declared.conversions.WholeLength.TheVariants.{Integer}
use Rattle.pf_posix.specs.declared.fetches.Fetch.{Fetch}
use Rattle.pf_posix.specs.declared.specifications.Numbering.{Numbering}
use Rattle.pf_posix.specs.Beginnings.{EndsInPart, IsBegunAs, IsUndecided, TakesAmount}
use Rattle.pf_posix.specs.Refusals.{Follows, numbering_by}
use Rattle.pf_posix.specs.Specifications.{modifier_letters}
use Rattle.pf_posix.specs.Spelling.{SpellsUpToFlags, SpellsUpToPrecision}
use Rattle.pf_posix.proofs.Growing.{numbers_spelled}
use Rattle.pf_posix.proofs.OneState.{one_state, state_of_numbers, state_of_place}
use Rattle.pf_posix.proofs.Outcomes.{MayGoOn}
use Rattle.pf_posix.proofs.Steps.{IsBefore, IsStateAfter, Numbers, Place, Width, Precision, State, Opened, First, Flags, Star, StarDigits, Modified, numbers_by}
use Rattle.pf_posix.proofs.Steps.{numbers_in, own_before, own_by, own_in, own_of, own_unfinished, place_in, position_in, position_of, too_large}

pub position_is : (state : State) (numbers : Numbers) → numbers_in state ≡ Some numbers → position_in state ≡ numbers.position
position_is _ numbers e = grind arith

-- a place by the words of the definitions, and back
pub takes : (place : Place) (t : Text) → IsBefore place t → TakesAmount (too_large place) t (position_of place) (own_before place)
takes (Width position set) t h = (set, h, refl)
takes (Precision position set width) t h = (h.0, set, width, h.1, h.2, refl)

pub record PlaceOf (kind : RefusalKind) (t : Text) (position : Option ℕ) (own : List Fetch) : Type 0 where
  pub place : Place
  pub before : IsBefore place t
  pub kind_is : too_large place ≡ kind
  pub position_is : position_of place ≡ position
  pub own_is : own_before place ≡ own

pub place_of : (kind : RefusalKind) (t : Text) (position : Option ℕ) (own : List Fetch) → TakesAmount kind t position own → PlaceOf kind t position own
place_of WidthTooLarge t position own h =
    record { place = Width position h.0; before = h.1; kind_is = refl; position_is = refl; own_is = sym h.2 }
place_of PrecisionTooLarge t position own h =
    record { place = Precision position h.1 h.2; before = (h.0, h.3, h.4); kind_is = refl; position_is = refl; own_is = sym h.5 }
place_of _ t position own h = absurd h

-- after `%`, the number of the argument and flags, it is `%` alone or more than that
abbrev pub IsMore : Text → Option ℕ → Type 0
IsMore t position = (t ≢ 37 ∷ []) ⊎ ((t ≡ 37 ∷ []) × (None ≡ position))

pub more_than : (t : Text) (position : Option ℕ) (set : FlagSet) → SpellsUpToFlags t position set → IsMore t position
more_than t position set h = let s = state_of_place t (Width position set) h in go s.state s.after s.has where
  go : (state : State) → IsStateAfter state t → place_in state ≡ Some (Width position set) → IsMore t position
  go Opened one e = let same : Width None no_flags ≡ Width position set = cc in inr (one, ap position_of same)
  go (Flags other more) k e = inl k.1
  go _ k e = cc

pub in_part : (t part : Text) (numbers : Numbers) (modifier : WholeLength)
    → SpellsUpToPrecision t numbers.position numbers.flags numbers.width numbers.precision
    → part ≡ t ++ modifier_letters modifier → EndsInPart part numbers.position (own_of numbers)
in_part t part n modifier h e =
    record { before = t; set = n.flags; width = n.width; precision = n.precision; modifier = modifier; before_is = h; whole = e; own_is = refl }

begun_unfinished : (state : State) (t : Text) → IsStateAfter state t → numbers_in state ≡ None → IsBegunAs t (position_in state) (own_unfinished state)
begun_unfinished (Star place) t h e =
    inr (inl (record { kind = too_large place; before = h.0; before_is = takes place h.0 h.1; whole = h.2 }, grind (arith, e)))
begun_unfinished (StarDigits place n) t h e =
    inr (inr (too_large place, n, record { before = h.0; digits = h.1; before_is = takes place h.0 h.2; numbered = h.4; digits_are = h.3; whole = h.5 }))
begun_unfinished (Modified numbers modifier) t h e = inl (in_part h.0 t numbers modifier h.1 h.2)
begun_unfinished _ t h e = cc

pub known : {X : Type 0} (o : Option X) → (o ≡ None) ⊎ ((x : X) × (o ≡ Some x))
known None = inl refl
known (Some x) = inr (x, refl)

pub begun_of : (state : State) (t : Text) → IsStateAfter state t → IsBegunAs t (position_in state) (own_in state)
begun_of state t h = elim (known (numbers_in state)) [
  | inl e ↦ rw e (begun_unfinished state t h e)
  | inr n ↦ rw (position_is state n.0 n.1, n.1)
      (inl (in_part t t n.0 (Integer lengths.None) (numbers_spelled state t n.0 h n.1) (sym (append-nil t))))
]

pub record StateOf (part : Text) (position : Option ℕ) (own : List Fetch) : Type 0 where
  pub state : State
  pub after : IsStateAfter state part
  pub position_is : position_in state ≡ position
  pub own_is : own_in state ≡ own

none_or_some : (modifier : WholeLength) → (modifier ≡ Integer lengths.None) ⊎ (modifier ≢ Integer lengths.None)
none_or_some (Integer lengths.None) = inl refl
none_or_some _ = inr (λ e. cc)

state_of_part : (part before : Text) (numbers : Numbers) (modifier : WholeLength)
    → SpellsUpToPrecision before numbers.position numbers.flags numbers.width numbers.precision → part ≡ before ++ modifier_letters modifier
    → (modifier ≡ Integer lengths.None) ⊎ (modifier ≢ Integer lengths.None) → StateOf part numbers.position (own_of numbers)
state_of_part part before numbers modifier h e (inr some) =
    record { state = Modified numbers modifier; after = (before, h, e, some); position_is = refl; own_is = refl }
state_of_part part before numbers modifier h e (inl none) =
    let same : part ≡ before = e ∙ ap (λ m. before ++ modifier_letters m) none ∙ append-nil before in
    let s = state_of_numbers before numbers h in
    let after = subst (IsStateAfter s.state) (sym same) s.after in
    record { state = s.state; after = after; position_is = position_is s.state numbers s.has; own_is = ap (own_by s.state) s.has }

pub state_of : (part : Text) (position : Option ℕ) (own : List Fetch) → IsBegunAs part position own → StateOf part position own
state_of part position own (inl h) = subst (StateOf part position) (sym h.own_is)
    (state_of_part part h.before (numbers_by position h.set h.width h.precision) h.modifier h.before_is h.whole (none_or_some h.modifier))
state_of part position own (inr (inl (h, some))) =
    let p = place_of h.kind h.before position own h.before_is in
    let numbered : is_some (position_of p.place) ≡ true = ap is_some p.position_is ∙ some in
    let own_is : own_in (Star p.place) ≡ own_before p.place = grind (arith, numbered) in
    record { state = Star p.place; after = (h.before, p.before, h.whole); position_is = p.position_is; own_is = own_is ∙ p.own_is }
state_of part position own (inr (inr (kind, n, h))) =
    let p = place_of kind h.before position own h.before_is in
    let after : IsStateAfter (StarDigits p.place n) part = (h.before, h.digits, p.before, h.digits_are, ap is_some p.position_is ∙ h.numbered, h.whole) in
    record { state = StarDigits p.place n; after = after; position_is = p.position_is; own_is = p.own_is }

pub may_go_on : (state : State) (part : Text) (numbering : Numbering) → IsStateAfter state part
    → IsUndecided part ⊎ Follows numbering (Some (numbering_by (position_in state))) → MayGoOn numbering state
may_go_on state part numbering h (inl (inl one)) = subst (MayGoOn numbering) (one_state Opened state part one h) tt
may_go_on state part numbering h (inl (inr (n, first))) = subst (MayGoOn numbering) (one_state (First n) state part first h) tt
may_go_on Opened part numbering h (inr f) = tt
may_go_on (First n) part numbering h (inr f) = tt
may_go_on _ part numbering h (inr f) = f

pub may_follow : (state : State) (part : Text) (numbering : Numbering) → IsStateAfter state part → MayGoOn numbering state
    → IsUndecided part ⊎ Follows numbering (Some (numbering_by (position_in state)))
may_follow Opened part numbering h f = inl (inl h)
may_follow (First n) part numbering h f = inl (inr (n, h))
may_follow _ part numbering h f = inr f
