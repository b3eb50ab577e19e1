-- The specifications of a text as the code goes through them. Public contracts name only `IsListedTo`.
use Rattle.std.specs.Prelude.{◌≡◌, ℕ, ◌+◌, ◌≤◌, List, [], ◌∷◌, ◌++◌, drop, length, Option, Some, None, ⊤}
use Rattle.pf_values.specs.declared.models.Model.{Model}
use Rattle.pf_values.specs.meaning.Text.{Text}
use Rattle.pf_posix.specs.declared.directive_spans.DirectiveSpan.{DirectiveSpan}
use Rattle.pf_posix.specs.declared.specifications.Specification.{Specification}
use Rattle.pf_posix.specs.Directives.{directive_between, directives_from}
use Rattle.pf_posix.specs.Items.{Byte, Errno, WholeItem, ReadsWhole, Specification as WholeDirective}
use Rattle.pf_posix.specs.PartsInText.{specification_read}
use Rattle.pf_posix.specs.Types.{fetches}

-- an item isn't a specification
abbrev pub IsOther : WholeItem → Type 0
IsOther (Byte byte) = ⊤
IsOther (WholeDirective s) = ⊥
IsOther Errno = ⊤

-- an item, which may be a specification, ends at an offset, and these items begin with it
abbrev pub IsBehindItem : Text → List WholeItem → Option Specification → ℕ → Type 0
IsBehindItem t items None stop = (item : WholeItem) × (later : List WholeItem) × IsOther item
    × (items ≡ item ∷ later) × ReadsWhole (drop stop t) later × (stop ≤ length t)
IsBehindItem t items (Some read) stop = (later : List WholeItem)
    × (items ≡ WholeDirective (specification_read read) ∷ later) × ReadsWhole (drop stop t) later × (stop ≤ length t)

-- the text from an offset on is read as items, and all specifications are these and theirs; `next`
-- arguments were fetched by then
pub record IsListedTo (model : Model) (t : Text) (all : List DirectiveSpan) (at next : ℕ)
    (done : List DirectiveSpan) : Type 0 where
  pub items : List WholeItem
  pub reads : ReadsWhole (drop at t) items
  pub within : at ≤ length t
  pub all_are : all ≡ done ++ directives_from model at next (drop at t) items reads

-- so it is after the item at that offset, which may be a specification
abbrev pub IsListedBehind : Model → Text → List DirectiveSpan → ℕ → ℕ → List DirectiveSpan → Option Specification → ℕ → Type 0
IsListedBehind model t all at next done None stop = IsListedTo model t all stop next done
IsListedBehind model t all at next done (Some read) stop =
    IsListedTo model t all stop (next + length (fetches model (specification_read read)))
    (done ++ directive_between model at stop next (specification_read read) ∷ [])
