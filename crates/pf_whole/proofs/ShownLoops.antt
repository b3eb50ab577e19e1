-- Arguments that are shown, as the code holds them: stretch by stretch.
use Rattle.std.proofs.Common.{
  ◌≡◌,
  ℕ,
  zero,
  suc,
  drop,
  ◌<◌,
  ◌≤◌,
  List,
  [],
  ◌∷◌,
  ◌++◌,
  map,
  length,
  replicate,
  refl,
  sym,
  ap,
  ◌∙◌,
  arith,
  subst,
  inl,
}
use Rattle.std.specs.Prelude.{Option, Some, None, option_map, slice_set}
use Rattle.std.specs.List.{AllZip}
use Rattle.std.proofs.lemmas.List.{append_assoc, map-append}
use Rattle.std.proofs.lemmas.Option.{slice_get_within}
use Rattle.std.proofs.lemmas.Slice.Zip.{AllZip-long}
use Rattle.pf_values.specs.declared.models.Model.{Model}
use Rattle.pf_values.specs.declared.types.ArgType.{ArgType}
use Rattle.pf_values.specs.Candidates.{neutrals}
use Rattle.pf_values.specs.meaning.Items.{Item, Reads, types}
use Rattle.pf_values.specs.meaning.Text.{Text}
use Rattle.pf_compare.specs.Answers.{PrintUnlike}
use Rattle.pf_compare.specs.declared.owned_args.OwnedArg.{OwnedArg}
use Rattle.pf_compare.specs.Owned.{argument_of_owned, type_of_owned}
use Rattle.pf_posix.specs.declared.types.WholeArgType.{WholeArgType}
use Rattle.pf_posix.specs.declared.stretches.Stretch.{Stretch}
use Rattle.pf_posix.specs.Heads.{IsHead}
use Rattle.pf_posix.specs.Opaque.{OpaqueItem}
use Rattle.pf_posix.specs.Stretches.{Stretches, Last, Before, ReadsStretches, types_of_opaque, whole_types}
use Rattle.pf_posix.specs.Types.{widened}
use Rattle.pf_whole.specs.Answers.{HaveOneShape, neutral_shown}
use Rattle.pf_whole.specs.Comparisons.{HasShownType, IsTypedProbe, shown_as, shown_for}
use Rattle.pf_whole.specs.Findings.{NeutralTells, shown_any, shown_neutrals}
use Rattle.pf_whole.specs.meaning.NormalSpellings.{normal_spelling}
use Rattle.pf_whole.proofs.HeadLemmas.{between, first_items}
use Rattle.pf_whole.proofs.Slots.{neutrals_shown}
use Rattle.pf_compare.proofs.ListLemmas.{map_set, set_same, zip_append, zip_set}
use Rattle.pf_compare.specs.declared.witnesses.Probe.{Probe}

pub some_shown : (args : List OwnedArg) → shown_as (map Some args) ≡ map Some (map argument_of_owned args)
some_shown [] = refl
some_shown (x ∷ args) = ap (λ l. Some (argument_of_owned x) ∷ l) (some_shown args)

none_shown : (count : ℕ) → shown_as (replicate count None) ≡ replicate count None
none_shown zero = refl
none_shown (suc count) = ap (λ l. None ∷ l) (none_shown count)

none_each : {A X : Type 0} (xs : List A) (count : ℕ) → count ≡ length xs → replicate {A = Option X} count None ≡ map (λ a. None) xs
none_each [] zero e = refl
none_each [] (suc count) e = absurd (omega (arith, e))
none_each (x ∷ xs) zero e = absurd (omega (arith, e))
none_each (x ∷ xs) (suc count) e = ap (λ l. None ∷ l) (none_each xs count (omega (arith, e)))

pub any_shown : (model : Model) (s : OpaqueItem) (count : ℕ) → count ≡ length (types_of_opaque model s)
    → shown_as (replicate count None) ≡ shown_any model s
any_shown model s count e = none_shown count ∙ none_each (types_of_opaque model s) count e

pub shown_more : (before args more : List (Option OwnedArg)) → shown_as ((before ++ args) ++ more) ≡ (shown_as before ++ shown_as args) ++ shown_as more
shown_more before args more = map-append (option_map argument_of_owned) (before ++ args) more
    ∙ ap (λ l. l ++ shown_as more) (map-append (option_map argument_of_owned) before args)

some_typed : (args : List OwnedArg) (ts : List ArgType) → map type_of_owned args ≡ ts → AllZip HasShownType (map Some args) (map widened ts)
some_typed [] [] e = tt
some_typed [] (t ∷ ts) e = cc
some_typed (x ∷ args) [] e = cc
some_typed (x ∷ args) (t ∷ ts) e = let first : type_of_owned x ≡ t = cc in (ap widened first, some_typed args ts (cc))

none_typed : (count : ℕ) (ts : List WholeArgType) → count ≡ length ts → AllZip HasShownType (replicate count None) ts
none_typed zero [] e = tt
none_typed zero (t ∷ ts) e = absurd (omega (arith, e))
none_typed (suc count) [] e = absurd (omega (arith, e))
none_typed (suc count) (t ∷ ts) e = (tt, none_typed count ts (omega (arith, e)))

-- what is shown so far has its types, if the rest has
abbrev pub IsTypedUpTo : Model → Stretches → Stretches → List (Option OwnedArg) → Type 0
IsTypedUpTo model a left shown = (rest : List (Option OwnedArg)) → AllZip HasShownType rest (whole_types model left)
    → AllZip HasShownType (shown ++ rest) (whole_types model a)

pub typed_from : (model : Model) (a : Stretches) → IsTypedUpTo model a a []
typed_from model a rest h = h

pub typed_past : (model : Model) (a rest : Stretches) (items : List Item) (s : OpaqueItem) (shown : List (Option OwnedArg)) (args : List OwnedArg)
    (count : ℕ)
    → IsTypedUpTo model a (Before items s rest) shown → map type_of_owned args ≡ types model items → count ≡ length (types_of_opaque model s)
    → IsTypedUpTo model a rest ((shown ++ map Some args) ++ replicate count None)
typed_past model a rest items s shown args count h e n back typed =
    let own = zip_append HasShownType (replicate count None) back (types_of_opaque model s) (whole_types model rest)
    (none_typed count (types_of_opaque model s) n) typed in
    let all = zip_append HasShownType (map Some args) (replicate count None ++ back) (map widened (types model items))
    (types_of_opaque model s ++ whole_types model rest)
    (some_typed args (types model items) e) own in
    subst (λ l. AllZip HasShownType l (whole_types model a))
    (sym (append_assoc shown (map Some args) (replicate count None ++ back)) ∙ sym (append_assoc (shown ++ map Some args) (replicate count None) back))
    (h _ all)

pub typed_end : (model : Model) (a : Stretches) (items : List Item) (shown : List (Option OwnedArg)) (args : List OwnedArg)
    → IsTypedUpTo model a (Last items) shown → map type_of_owned args ≡ types model items → AllZip HasShownType (shown ++ map Some args) (whole_types model a)
typed_end model a items shown args h e = h (map Some args) (some_typed args (types model items) e)

-- neutral arguments so far, and those of the rest, are those of the whole
abbrev pub IsNeutralUpTo : Model → Stretches → Stretches → List (Option OwnedArg) → Type 0
IsNeutralUpTo model a left shown = shown_as shown ++ neutral_shown model left ≡ neutral_shown model a

neutral_args : (model : Model) (items : List Item) (args : List OwnedArg) → map argument_of_owned args ≡ neutrals (types model items)
    → shown_as (map Some args) ≡ shown_neutrals model items
neutral_args model items args e = some_shown args ∙ ap (map Some) e ∙ sym (neutrals_shown (types model items))

pub neutral_past : (model : Model) (a rest : Stretches) (items : List Item) (s : OpaqueItem) (shown : List (Option OwnedArg)) (args : List OwnedArg)
    (count : ℕ)
    → IsNeutralUpTo model a (Before items s rest) shown → map argument_of_owned args ≡ neutrals (types model items) → count ≡ length (types_of_opaque model s)
    → IsNeutralUpTo model a rest ((shown ++ map Some args) ++ replicate count None)
neutral_past model a rest items s shown args count h e n =
    let first = neutral_args model items args e in
    let own = any_shown model s count n in
    ap (λ l. l ++ neutral_shown model rest) (shown_more shown (map Some args) (replicate count None))
    ∙ rw (first, own) (append_assoc (shown_as shown ++ shown_neutrals model items) (shown_any model s) (neutral_shown model rest)
    ∙ append_assoc (shown_as shown) (shown_neutrals model items) (shown_any model s ++ neutral_shown model rest)) ∙ h

pub neutral_end : (model : Model) (a : Stretches) (items : List Item) (shown : List (Option OwnedArg)) (args : List OwnedArg)
    → IsNeutralUpTo model a (Last items) shown → map argument_of_owned args ≡ neutrals (types model items)
    → shown_as (shown ++ map Some args) ≡ neutral_shown model a
neutral_end model a items shown args h e =
    map-append (option_map argument_of_owned) shown (map Some args) ∙ ap (λ l. shown_as shown ++ l) (neutral_args model items args e) ∙ h

-- neutral arguments are shown of a text up to an offset, each of its type
pub record IsShownNeutrally (model : Model) (t : Text) (at : ℕ) (shown : List (Option OwnedArg)) : Type 0 where
  pub all : Stretches
  pub left : Stretches
  pub reads : ReadsStretches t all
  pub reads_left : ReadsStretches (drop at t) left
  pub within : at ≤ length t
  pub neutral : IsNeutralUpTo model all left shown
  pub typed : IsTypedUpTo model all left shown

-- neutral arguments are shown, each of its type
abbrev pub AreShownNeutrally : Model → Stretches → List (Option OwnedArg) → Type 0
AreShownNeutrally model a shown = (shown_as shown ≡ neutral_shown model a) × AllZip HasShownType shown (whole_types model a)

-- two texts of one shape: the first stretches take arguments of the same types
pub first_types : (model : Model) (left more : Stretches) → HaveOneShape model left more → types model (first_items left) ≡ types model (first_items more)
first_types model (Last xs) (Last ys) h = h
first_types model (Last xs) (Before ys p more) h = absurd h
first_types model (Before xs s rest) (Last ys) h = absurd h
first_types model (Before xs s rest) (Before ys p more) h = h.0

pub first_tells : (model : Model) (left more : Stretches) → HaveOneShape model left more
    → PrintUnlike model (first_items left) (first_items more) (neutrals (types model (first_items left))) → NeutralTells model left more
first_tells model (Last xs) (Last ys) h g = g
first_tells model (Last xs) (Before ys p more) h g = absurd h
first_tells model (Before xs s rest) (Last ys) h g = absurd h
first_tells model (Before xs s rest) (Before ys p more) h g = inl g

-- if one goes on, the other one does
pub record IsOtherBefore (model : Model) (u : Text) (from : ℕ) (more : Stretches) (other : Stretch) (s : OpaqueItem) (rest : Stretches) : Type 0 where
  pub items : List Item
  pub parts : OpaqueItem
  pub others : Stretches
  pub more_is : more ≡ Before items parts others
  pub reads : Reads (between u from other.end) items
  pub later : ReadsStretches (drop other.after u) others
  pub spelling : normal_spelling model s ≡ normal_spelling model parts
  pub shape : HaveOneShape model rest others

pub other_before : (model : Model) (u : Text) (from : ℕ) (more : Stretches) (other : Stretch) (xs : List Item) (s : OpaqueItem) (rest : Stretches)
    → HaveOneShape model (Before xs s rest) more → IsHead u from more other → IsOtherBefore model u from more other s rest
other_before model u from (Last ys) other xs s rest h head = absurd h
other_before model u from (Before ys p others) other xs s rest h head = record {
  items = ys;
  parts = p;
  others = others;
  more_is = refl;
  reads = head.1;
  later = head.3;
  spelling = h.1;
  shape = h.2;
}

-- if one ends, the other one does
pub other_last : (model : Model) (more : Stretches) (xs : List Item) → HaveOneShape model (Last xs) more → more ≡ Last (first_items more)
other_last model (Last ys) xs h = refl
other_last model (Before ys p others) xs h = absurd h

-- the arguments of a probe are shown, or neutral ones, each of its type
abbrev pub IsShownFor : Model → Stretches → Option Probe → List (Option OwnedArg) → Type 0
IsShownFor model a found shown = (shown_as shown ≡ shown_for model a found) × AllZip HasShownType shown (whole_types model a)

-- one of the neutral arguments becomes that of a probe
module _ (model : Model) (a : Stretches) (shown : List (Option OwnedArg)) (probe : Probe) (h : AreShownNeutrally model a shown)
    (typed : IsTypedProbe model a (Some probe)) where
  pub probe_inside : probe.index < length shown
  probe_inside = omega (
    arith,
    AllZip-long HasShownType shown (whole_types model a) h.1,
    slice_get_within (whole_types model a) probe.index (widened (type_of_owned probe.argument)) typed,
  )

  pub probe_set : IsShownFor model a (Some probe) (slice_set shown probe.index (Some probe.argument))
  probe_set = (
    map_set (option_map argument_of_owned) shown probe.index (Some probe.argument)
        ∙ ap (λ l. slice_set l probe.index (Some (argument_of_owned probe.argument))) h.0,
    subst (AllZip HasShownType (slice_set shown probe.index (Some probe.argument)))
        (set_same (whole_types model a) probe.index (widened (type_of_owned probe.argument)) typed)
        (zip_set HasShownType shown (whole_types model a) probe.index (Some probe.argument) (widened (type_of_owned probe.argument)) h.1 refl),
  )
