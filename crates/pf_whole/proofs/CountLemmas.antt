-- How many arguments stretches and opaque directives take.
use Rattle.std.proofs.Common.{◌≡◌, ℕ, ◌+◌, ◌-◌, ◌<◌, ◌≤◌, List, [], ◌∷◌, ◌++◌, map, length, length-append, replicate, refl, sym, ap, ◌∙◌, arith, subst, take}
use Rattle.std.specs.Prelude.{Option, Some, None}
use Rattle.std.proofs.lemmas.List.{append-nil, append_assoc, replicate-append-replicate}
use Rattle.pf_values.specs.declared.limits.TheConstants.{MAX_TEXT_LEN}
use Rattle.pf_values.specs.declared.models.Model.{Model}
use Rattle.pf_values.specs.meaning.Flags.{flag_byte}
use Rattle.pf_values.specs.meaning.Items.{Byte, Directive, HasItems, Item, Reads, types}
use Rattle.pf_values.specs.meaning.Text.{Text}
use Rattle.pf_canon.proofs.TextLemmas.{items_few}
use Rattle.pf_posix.specs.declared.types.WholeArgType.{WholeArgType}
use Rattle.pf_posix.specs.Items.{HasArguments}
use Rattle.pf_posix.specs.Laws.{HasCount, filled}
use Rattle.pf_posix.specs.Opaque.{OpaqueErrno, OpaqueItem, OpaqueSpecification, SpellsOpaqueItem}
use Rattle.pf_posix.specs.Specifications.{Amount, Given, Fetched, WholeSpecification, conversion_letter, modifier_letters}
use Rattle.pf_posix.specs.Spelling.{SpellsWholePrecision, SpellsWholeWidth}
use Rattle.pf_posix.specs.Stretches.{Last, Before, ReadsStretches, types_of_opaque}
use Rattle.pf_posix.specs.Types.{conversion_type, fetch, fetches, star_fetches, widened}
use Rattle.pf_posix.proofs.KeptTypes.{types_are_kept}
use Rattle.pf_posix.proofs.SpecificationsOnce.{parts_of}
use Rattle.pf_posix.proofs.Unique.{one_list}
use Rattle.pf_whole.proofs.TraceLemmas.{length_map}

-- the arguments of a stretch, and of an opaque directive
pub stretch_args : (model : Model) (t : Text) (items : List Item) → HasItems t items → HasArguments model t (map widened (types model items))
stretch_args model t items h = types_are_kept model t (Last items) h.reads h.limit

pub opaque_args : (model : Model) (t : Text) (s : OpaqueItem) → SpellsOpaqueItem t s → length t ≤ MAX_TEXT_LEN
    → HasArguments model t (types_of_opaque model s)
opaque_args model t s h few =
    let reads : ReadsStretches t (Before [] s (Last [])) = ([], t, [], refl, h, refl, sym (append-nil t)) in
    subst (HasArguments model t) (append-nil (types_of_opaque model s)) (types_are_kept model t (Before [] s (Last [])) reads few)

-- a count of the arguments is that of these
pub counted : (model : Model) (t : Text) (known : List WholeArgType) (n : ℕ) → HasArguments model t known
    → (others : List WholeArgType) × HasArguments model t others × (n ≡ length others) → n ≡ length known
counted model t known n h g = g.2 ∙ ap length (one_list model t g.0 known g.1 h)

-- no bytes, no items
pub no_items : (t : Text) (items : List Item) → Reads t items → length t ≡ 0 → items ≡ []
no_items t [] h e = refl
no_items t (x ∷ items) h e = absurd (omega (arith, items_few t (x ∷ items) h, e))

types_few : (model : Model) (items : List Item) → length (types model items) ≤ length items
types_few model [] = omega arith
types_few model (Byte byte ∷ items) = omega (arith, types_few model items)
types_few model (Directive s ∷ items) = omega (arith, types_few model items)

-- no stretch takes more arguments than it has bytes, and no opaque directive
pub stretch_args_few : (model : Model) (t : Text) (items : List Item) → Reads t items → length (map widened (types model items)) ≤ length t
stretch_args_few model t items h = omega (arith, length_map widened (types model items), types_few model items, items_few t items h)

star_few : (t : Text) (amount : Option Amount) → SpellsWholeWidth t None amount → length (star_fetches amount) ≤ length t
star_few t None h = omega arith
star_few t (Some (Given n)) h = omega arith
star_few t (Some (Fetched number)) h = omega (arith, ap length h.whole)

point_few : (t : Text) (amount : Option Amount) → SpellsWholePrecision t None amount → length (star_fetches amount) ≤ length t
point_few t None h = omega arith
point_few t (Some (Given n)) h = omega arith
point_few t (Some (Fetched number)) h = omega (arith, ap length h.2, ap length h.1.whole)

pub opaque_count : (model : Model) (s : WholeSpecification)
    → length (types_of_opaque model (OpaqueSpecification s)) ≡ length (star_fetches s.width) + length (star_fetches s.precision) + 1
opaque_count model s =
    let last = fetch s.position (conversion_type model s.modifier s.conversion) ∷ [] in
    length_map (λ f. f.wanted) (fetches model s)
    ∙ omega (arith, length-append (star_fetches s.width ++ star_fetches s.precision) last, length-append (star_fetches s.width) (star_fetches s.precision))

pub opaque_args_few : (model : Model) (t : Text) (other : OpaqueItem) → SpellsOpaqueItem t other → length (types_of_opaque model other) ≤ length t
opaque_args_few model t OpaqueErrno h = omega arith
opaque_args_few model t (OpaqueSpecification s) h =
    let parts = parts_of t s h.spelled h.unnumbered in
    let flags = map flag_byte parts.flags in
    let letters = modifier_letters s.modifier ++ conversion_letter s.conversion ∷ [] in
    omega (
      arith,
      opaque_count model s,
      star_few parts.width s.width parts.width_is,
      point_few parts.precision s.precision parts.precision_is,
      ap length parts.whole,
      length-append flags (parts.width ++ (parts.precision ++ letters)),
      length-append parts.width (parts.precision ++ letters),
      length-append parts.precision letters,
    )

-- arguments that may be any are added one by one
pub none_yet : {X : Type 0} (shown : List (Option X)) (count : ℕ) → shown ≡ shown ++ replicate (count - count) None
none_yet shown count =
    let none : count - count ≡ 0 = omega arith in
    sym (append-nil shown) ∙ ap (λ n. shown ++ replicate n None) (sym none)

pub none_more : {X : Type 0} (start before after : List (Option X)) (count left : ℕ) → before ≡ start ++ replicate (count - left) None
    → after ≡ before ++ None ∷ []
    → left ≤ count → 0 < left → after ≡ start ++ replicate (count - (left - 1)) None
none_more start before after count left h g few some =
    let n : (count - left) + 1 ≡ count - (left - 1) = omega (arith, few, some) in
    g ∙ ap (λ l. l ++ None ∷ []) h ∙ append_assoc start (replicate (count - left) None) (None ∷ [])
    ∙ ap (λ l. start ++ l) (replicate-append-replicate (count - left) 1 None ∙ ap (λ k. replicate k None) n)

-- the elements at the front of a slice that has room for them
taken_front : {X : Type 0} (old more : List X) → length more ≤ length old → take (length more) (filled old more) ≡ more
taken_front [] [] few = refl
taken_front [] (x ∷ more) few = absurd (omega (arith, few))
taken_front (o ∷ old) [] few = refl
taken_front (o ∷ old) (x ∷ more) few = ap (λ l. x ∷ l) (taken_front old more (omega (arith, few)))

-- the elements that a call has put there
pub taken : {X : Type 0} (old new found : List X) (count : ℕ) → count ≡ length found → new ≡ filled old found → length found ≤ length old
    → take count new ≡ found
taken old new found count count_is front few = ap (λ n. take n new) count_is ∙ ap (take (length found)) front ∙ taken_front old found few

pub taken_types : (model : Model) (t : Text) (old new : List WholeArgType) (count : ℕ) (h : HasCount model t old new count) → length h.types ≤ length old
    → take count new ≡ h.types
taken_types model t old new count h few = taken old new h.types count h.count_is h.front few
