-- What the next stretch of a text says of the text, for loops over stretches.
use Rattle.std.proofs.Common.{◌≡◌, ℕ, ◌-◌, ◌<◌, ◌≤◌, List, take, drop, length, refl, sym, ap, ◌∙◌, arith, subst, length-take, length-drop}
use Rattle.std.specs.Prelude.{Some, None, IsSome, IsSomeAnd}
use Rattle.pf_values.specs.declared.limits.TheConstants.{MAX_TEXT_LEN}
use Rattle.pf_values.specs.meaning.Items.{HasItems, Item, Reads}
use Rattle.pf_values.specs.meaning.Text.{Text}
use Rattle.pf_posix.specs.declared.opaque_directives.Opaque.{Opaque}
use Rattle.pf_posix.specs.declared.stretches.Stretch.{Stretch}
use Rattle.pf_posix.specs.Heads.{IsHead, IsPlaced}
use Rattle.pf_posix.specs.Opaque.{SpellsOpaqueItem}
use Rattle.pf_posix.specs.OpaqueParts.{item_of_opaque}
use Rattle.pf_posix.specs.Stretches.{Stretches, Last, Before, ReadsStretches}

-- the bytes of a text between two offsets
abbrev pub between : Text → ℕ → ℕ → Text
between t from to = take (to - from) (drop from t)

abbrev pub first_items : Stretches → List Item
first_items (Last items) = items
first_items (Before items s rest) = items

pub between_few : (t : Text) (from to limit : ℕ) → length t ≤ limit → length (between t from to) ≤ limit
between_few t from to limit h = omega (arith, h, length-take (to - from) (drop from t), length-drop from t)

-- the bytes of a stretch are read as its items, and are within the limit
pub stretch_has : (t : Text) (from : ℕ) (left : Stretches) (stretch : Stretch) → IsHead t from left stretch → length t ≤ MAX_TEXT_LEN
    → HasItems (between t from stretch.end) (first_items left)
stretch_has t from (Last items) stretch h limit = record { reads = h.2; limit = between_few t from stretch.end MAX_TEXT_LEN limit }
stretch_has t from (Before items s rest) stretch h limit = record { reads = h.1; limit = between_few t from stretch.end MAX_TEXT_LEN limit }

-- an opaque directive or `%m` comes after the stretch
pub record IsBeforeOpaque (t : Text) (from : ℕ) (left : Stretches) (stretch : Stretch) (opaque : Opaque) : Type 0 where
  pub items : List Item
  pub rest : Stretches
  pub left_is : left ≡ Before items (item_of_opaque opaque) rest
  pub reads : Reads (between t from stretch.end) items
  pub spells : SpellsOpaqueItem (between t stretch.end stretch.after) (item_of_opaque opaque)
  pub later : ReadsStretches (drop stretch.after t) rest

pub before_opaque : (t : Text) (from : ℕ) (left : Stretches) (stretch : Stretch) (opaque : Opaque) → IsHead t from left stretch
    → stretch.opaque ≡ Some opaque → IsBeforeOpaque t from left stretch opaque
before_opaque t from (Last items) stretch opaque h e = let no : None ≡ Some opaque = sym h.0 ∙ e in cc
before_opaque t from (Before items s rest) stretch opaque h e =
    let parts : IsSomeAnd (Some opaque) (λ d. item_of_opaque d ≡ s) = subst (λ o. IsSomeAnd o (λ d. item_of_opaque d ≡ s)) e h.0 in
    let same : item_of_opaque opaque ≡ s = parts in
    record {
      items = items;
      rest = rest;
      left_is = ap (λ p. Before items p rest) (sym same);
      reads = h.1;
      spells = subst (SpellsOpaqueItem (between t stretch.end stretch.after)) (sym same) h.2;
      later = h.3;
    }

-- the text ends with the stretch
pub at_last : (t : Text) (from : ℕ) (left : Stretches) (stretch : Stretch) → IsHead t from left stretch → stretch.opaque ≡ None
    → (left ≡ Last (first_items left)) × (stretch.end ≡ length t)
at_last t from (Last items) stretch h e = (refl, h.1)
at_last t from (Before items s rest) stretch h e = absurd (subst (λ o. IsSomeAnd o (λ d. item_of_opaque d ≡ s)) e h.0)

-- what is left after that is shorter
pub goes_further : (t : Text) (from : ℕ) (stretch : Stretch) (opaque : Opaque) → IsPlaced t from stretch → stretch.opaque ≡ Some opaque
    → from < stretch.after
goes_further t from stretch opaque h e =
    let some : IsSome stretch.opaque = rw e refl in
    omega (arith, h.begins, h.further some)

pub less_left : (t : Text) (from : ℕ) (stretch : Stretch) (opaque : Opaque) → IsPlaced t from stretch → stretch.opaque ≡ Some opaque
    → length t - stretch.after < length t - from
less_left t from stretch opaque h e =
    let further = goes_further t from stretch opaque h e in
    omega (arith, further, h.within)

-- the number of bytes between two offsets
pub between_long : (t : Text) (from to : ℕ) → length (between t from to) ≤ to - from
between_long t from to = omega (arith, length-take (to - from) (drop from t))
