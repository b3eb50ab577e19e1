-- A format's front in which no argument has a number, as the code reads it at offsets of the text. No
-- public contract names these.
use Rattle.std.specs.Prelude.{◌≡◌, ◌≢◌, ℕ, ◌+◌, ◌-◌, ◌<◌, ◌≤◌, List, [], ◌∷◌, ◌++◌, ◌⊎◌, drop, get_or, length, take, None, ◌==◌, if◌then◌else◌}
use Rattle.std.specs.List.{AllByRecursion}
use Rattle.pf_values.specs.declared.models.Model.{Model}
use Rattle.pf_values.specs.meaning.Text.{Text}
use Rattle.pf_posix.specs.declared.specifications.Numbering.{Numbering}
use Rattle.pf_posix.specs.declared.specifications.Numbering.TheVariants.{Undecided, Unnumbered}
use Rattle.pf_posix.specs.declared.specifications.Specification.{Specification as Read}
use Rattle.pf_posix.specs.Halts.{IsDefinedAt}
use Rattle.pf_posix.specs.declared.argument_types.PlainFront.{PlainFront}
use Rattle.pf_posix.specs.declared.types.WholeArgType.{WholeArgType}
use Rattle.pf_posix.specs.Items.{WholeItem, ReadsWhole, Specification, IsWholeReadAs, errno_letter, fetched}
use Rattle.pf_posix.specs.Laws.{filled}
use Rattle.pf_posix.specs.Readings.{wanted_types}
use Rattle.pf_posix.specs.Specifications.{WholeSpecification}
use Rattle.pf_posix.specs.Types.{fetch, fetches}
use Rattle.pf_posix.specs.Unnumbered.{IsUnnumbered}

-- the bytes between two offsets are an item that isn't a numbered specification
pub record IsPlain (t : Text) (start stop : ℕ) (item : WholeItem) : Type 0 where
  pub some : start < stop
  pub within : stop ≤ length t
  pub spelled : IsWholeReadAs (take (stop - start) (drop start t)) item
  pub unnumbered : IsUnnumbered item

-- they are a specification that fetches one argument, of this type
pub record HasTypeAt (model : Model) (t : Text) (start : ℕ) (found : WholeArgType × ℕ) : Type 0 where
  pub s : WholeSpecification
  pub plain : IsPlain t start found.1 (Specification s)
  pub fetches_are : fetches model s ≡ fetch None found.0 ∷ []

-- the types of the arguments of an item are put after others
pub record IsPutAt (model : Model) (t : Text) (start : ℕ) (old new : List WholeArgType) (count : ℕ)
    (read : PlainFront) : Type 0 where
  pub item : WholeItem
  pub plain : IsPlain t start read.at item
  pub more : read.count ≡ count + length (fetched model (item ∷ []))
  pub put : (first before : List WholeArgType) → old ≡ filled first before → count ≡ length before
      → new ≡ filled first (before ++ wanted_types (fetched model (item ∷ [])))
  pub same_length : length new ≡ length old

-- whether specifications are numbered after this many arguments without numbers
abbrev pub numbering_after : ℕ → Numbering
numbering_after count = if count == 0 then Undecided else Unnumbered

-- so they are; or nothing is put, since no such item begins there
abbrev pub IsPut : Model → Text → ℕ → List WholeArgType → List WholeArgType → ℕ → PlainFront → Type 0
IsPut model t start old new count read =
    ((read.at ≡ start) × (read.count ≡ count) × (new ≡ old) × (get_or t (start + 1) 0 ≢ errno_letter)
    × ((found : Read × ℕ) → IsDefinedAt t start (numbering_after count) found → found.0.position ≢ None))
    ⊎ IsPutAt model t start old new count read

-- the text up to an offset is items that take this many arguments, all without numbers
pub record HasPlainItems (model : Model) (t : Text) (at count : ℕ) : Type 0 where
  pub items : List WholeItem
  pub reads : ReadsWhole (take at t) items
  pub unnumbered : AllByRecursion (λ f. f.number ≡ None) (fetched model items)
  pub count_is : count ≡ length (fetched model items)

-- and the first of their types are at the front of a slice, as many as there is room for
pub record IsPlainFront (model : Model) (t : Text) (at : ℕ) (old new : List WholeArgType)
    (count : ℕ) : Type 0 where
  pub plain : HasPlainItems model t at count
  pub front : new ≡ filled old (wanted_types (fetched model plain.items))
