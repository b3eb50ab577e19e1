-- The types of numbered arguments in a table, as the code has it. No public contract names these.
use Rattle.std.specs.Prelude.{◌≡◌, ℕ, ◌-◌, ◌<◌, ◌≤◌, true, is_some, List, [], ◌++◌, Option, Some, None, Result, MatchResult, ◌⊎◌, length, slice_index_or, take}
use Rattle.std.specs.List.{AllByRecursion}
use Rattle.pf_values.specs.declared.limits.TheConstants.{MAX_NUMBER}
use Rattle.pf_values.specs.declared.models.Model.{Model}
use Rattle.pf_values.specs.declared.refusals.RefusalKind.TheVariants.{TwoTypes}
use Rattle.pf_values.specs.meaning.Text.{Text}
use Rattle.pf_text.specs.declared.refusals.Refusal.{Refusal}
use Rattle.pf_posix.specs.declared.fetches.Fetch.{Fetch}
use Rattle.pf_posix.specs.declared.numbered.Table.{Table}
use Rattle.pf_posix.specs.declared.numbered.TheConstants.{ROOM}
use Rattle.pf_posix.specs.declared.specifications.Numbering.TheVariants.{Undecided}
use Rattle.pf_posix.specs.declared.specifications.Specification.{Specification}
use Rattle.pf_posix.specs.declared.specifications.Stars.{Stars}
use Rattle.pf_posix.specs.declared.types.WholeArgType.{WholeArgType}
use Rattle.pf_posix.specs.Halts.{IsDefinedAt, one_fetch}
use Rattle.pf_posix.specs.Items.{WholeItem, ReadsWhole, fetched}
use Rattle.pf_posix.specs.Readings.{conflicts, greatest, wanted_at}
use Rattle.pf_posix.specs.Refusals.{IsOneType}
use Rattle.pf_posix.specs.Types.{conversion_type, fetch, int_type}

-- no two fetches give one argument two types
abbrev pub HaveOneType : List Fetch → Type 0
HaveOneType seen = AllByRecursion (λ f. AllByRecursion (IsOneType f) seen) seen

-- each index has the type of its first fetch
pub record TableHolds (table : Table) (seen : List Fetch) : Type 0 where
  pub full : length table.types ≡ ROOM
  pub types : (index : ℕ) → index < ROOM → slice_index_or table.types index None ≡ wanted_at index seen
  pub count : table.count ≡ greatest seen
  pub room : table.count ≤ ROOM
  pub one_type : HaveOneType seen

-- a number is one of those that arguments have, and it ends before an offset
abbrev pub IsPlacedNumber : Option ℕ → ℕ → Type 0
IsPlacedNumber number stop = (n : ℕ) → number ≡ Some n → (0 < n) × (n ≤ MAX_NUMBER) × (0 < stop)

abbrev pub ArePlaced : Stars → Type 0
ArePlaced stars =
    IsPlacedNumber stars.width stars.width_stop × IsPlacedNumber stars.precision stars.precision_stop

-- the argument of a number was fetched with another type, which rejects the byte before an offset
abbrev pub IsConflict : List Fetch → Option ℕ → WholeArgType → ℕ → Refusal → Type 0
IsConflict seen number wanted stop refusal = (n : ℕ) × (number ≡ Some n)
    × (conflicts seen (fetch (Some n) wanted) ≡ true)
    × (refusal ≡ record { kind = TwoTypes; at = stop - 1 })

-- what the `*`s of a specification fetch by number
abbrev pub of_stars : Stars → List Fetch
of_stars stars = one_fetch stars.width int_type ++ one_fetch stars.precision int_type

-- one of them conflicts with what was fetched before it
abbrev pub HasConflict : List Fetch → Stars → Refusal → Type 0
HasConflict seen stars refusal = IsConflict seen stars.width int_type stars.width_stop refusal
    ⊎ (HaveOneType (seen ++ one_fetch stars.width int_type)
    × IsConflict (seen ++ one_fetch stars.width int_type) stars.precision int_type stars.precision_stop refusal)

-- a table takes the argument of a number, if there is one
abbrev pub Keeps : Table → Option ℕ → WholeArgType → ℕ → Result (Unit {0}) Refusal → Table → Type 0
Keeps old number wanted stop result new = (seen : List Fetch) → TableHolds old seen → MatchResult result
    (λ _. TableHolds new (seen ++ one_fetch number wanted)) (IsConflict seen number wanted stop)

-- those of the `*`s of a specification
abbrev pub KeepsStars : Table → Stars → Result (Unit {0}) Refusal → Table → Type 0
KeepsStars old stars result new = (seen : List Fetch) → TableHolds old seen → MatchResult result
    (λ _. TableHolds new (seen ++ of_stars stars)) (HasConflict seen stars)

-- and all of a specification that ends at an offset
abbrev pub KeepsSpecification : Model → Table → Specification → ℕ → Result (Unit {0}) Refusal → Table → Type 0
KeepsSpecification model old read stop result new = (seen : List Fetch) → TableHolds old seen → MatchResult result
    (λ _. TableHolds new ((seen ++ of_stars read.stars)
    ++ one_fetch read.position (conversion_type model read.parts.modifier read.parts.conversion)))
    (λ refusal. HasConflict seen read.stars refusal ⊎ (HaveOneType (seen ++ of_stars read.stars)
    × IsConflict (seen ++ of_stars read.stars) read.position
    (conversion_type model read.parts.modifier read.parts.conversion) stop refusal))

-- the first specification of a text begins at an offset, and is numbered if it is defined
pub record IsNumberedFirst (model : Model) (t : Text) (at : ℕ) : Type 0 where
  pub items : List WholeItem
  pub reads : ReadsWhole (take at t) items
  pub nothing : fetched model items ≡ []
  pub numbered : (found : Specification × ℕ) → IsDefinedAt t at Undecided found → is_some found.0.position ≡ true
