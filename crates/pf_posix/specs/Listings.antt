-- The specifications of a format's front in which no argument has a number, as the code puts them into a slice. No
-- public contract names these.
use Rattle.std.specs.Prelude.{◌≡◌, ◌≢◌, ℕ, ◌+◌, List, [], ◌∷◌, ◌++◌, ◌⊎◌, get_or, length, None, take}
use Rattle.pf_values.specs.declared.models.Model.{Model}
use Rattle.pf_values.specs.meaning.Text.{Text}
use Rattle.pf_posix.specs.declared.directive_spans.DirectiveSpan.{DirectiveSpan}
use Rattle.pf_posix.specs.declared.listings.ListedFront.{ListedFront}
use Rattle.pf_posix.specs.declared.specifications.Specification.{Specification as Read}
use Rattle.pf_posix.specs.Directives.{directive_between, directives_from}
use Rattle.pf_posix.specs.Halts.{IsDefinedAt}
use Rattle.pf_posix.specs.Items.{Byte, Errno, Specification, WholeItem, errno_letter, fetched}
use Rattle.pf_posix.specs.Laws.{filled}
use Rattle.pf_posix.specs.Plain.{HasPlainItems, IsPlain, numbering_after}

-- the specification, if an item between two offsets is one; `next` arguments were fetched before it
abbrev pub item_directives : Model → ℕ → ℕ → ℕ → WholeItem → List DirectiveSpan
item_directives model begin end next (Byte byte) = []
item_directives model begin end next (Specification s) = directive_between model begin end next s ∷ []
item_directives model begin end next Errno = []

-- an item is read, and put after others if it is a specification
pub record IsListedItem (model : Model) (t : Text) (start : ℕ) (old new : List DirectiveSpan) (count next : ℕ)
    (read : ListedFront) : Type 0 where
  pub item : WholeItem
  pub plain : IsPlain t start read.at item
  pub fetches_are : read.fetched ≡ next + length (fetched model (item ∷ []))
  pub more : read.count ≡ count + length (item_directives model start read.at next item)
  pub put : (first before : List DirectiveSpan) → old ≡ filled first before → count ≡ length before
      → new ≡ filled first (before ++ item_directives model start read.at next item)
  pub same_length : length new ≡ length old

-- so it is; or nothing is put, since no such item begins there
abbrev pub IsListedOrNone : Model → Text → ℕ → List DirectiveSpan → List DirectiveSpan → ℕ → ℕ → ListedFront → Type 0
IsListedOrNone model t start old new count next read =
    ((read.at ≡ start) × (new ≡ old) × (get_or t (start + 1) 0 ≢ errno_letter)
    × ((found : Read × ℕ) → IsDefinedAt t start (numbering_after next) found → found.0.position ≢ None))
    ⊎ IsListedItem model t start old new count next read

-- the text up to an offset is items that take this many arguments, all without numbers, and its specifications are
-- at the front of a slice, as many as there is room for
pub record IsListedFront (model : Model) (t : Text) (at : ℕ) (old new : List DirectiveSpan) (count next : ℕ) : Type 0 where
  pub plain : HasPlainItems model t at next
  pub count_is : count ≡ length (directives_from model 0 0 (take at t) plain.items plain.reads)
  pub front : new ≡ filled old (directives_from model 0 0 (take at t) plain.items plain.reads)
