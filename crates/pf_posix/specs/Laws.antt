-- The statements of the laws, and the results of the calls.
use Rattle.std.specs.Prelude.{◌≡◌, ◌≢◌, ℕ, ◌<◌, List, [], ◌∷◌, ◌++◌, length, slice_get, ◌⊎◌, Option, Some, None, ⊤}
use Rattle.pf_values.specs.declared.models.Model.{Model}
use Rattle.std.specs.List.{AllByRecursion}
use Rattle.pf_values.specs.meaning.Text.{Text, percent}
use Rattle.pf_text.specs.declared.refusals.Side.{Side}
use Rattle.pf_values.specs.declared.refusals.RefusalKind.{RefusalKind}
use Rattle.pf_text.specs.declared.refusals.Refusal.{Refusal}
use Rattle.pf_text.specs.declared.refusals.TextFault.{TextFault}
use Rattle.pf_text.specs.declared.refusals.TextFault.TheVariants as faults
use Rattle.pf_posix.specs.declared.types.WholeArgType.{WholeArgType}
use Rattle.pf_text.specs.Refusals.{RefusesOne}
use Rattle.pf_posix.specs.Items.{Byte, Errno, HasArguments, IsWholeAccepted, WholeItem, ReadsWhole, Specification, errno, errno_letter}
use Rattle.pf_posix.specs.Refusals.{IsWholeRefusedAt}

-- a text is accepted, or rejected
abbrev pub IsAcceptedOrRefused : Model → Text → Type 0
IsAcceptedOrRefused model t =
    ((types : List WholeArgType) × HasArguments model t types)
    ⊎ ((kind : RefusalKind) × (at : ℕ) × IsWholeRefusedAt model t kind at)

-- elements at the front of a slice, as many as there is room for, and then what was there
abbrev pub filled : {X : Type 0} → List X → List X → List X
filled [] more = []
filled (o ∷ old) [] = o ∷ old
filled (o ∷ old) (x ∷ more) = x ∷ filled old more

-- a text has `count` types, and the first of them are at the front of a slice, as many as there is
-- room for; the rest of the slice is as it was
pub record HasCount (model : Model) (t : Text) (old new : List WholeArgType)
    (count : ℕ) : Type 0 where
  pub types : List WholeArgType
  pub accepted : HasArguments model t types
  pub count_is : count ≡ length types
  pub front : new ≡ filled old types

-- two lists are equal, or this is the first index at which they differ, which may be the length of
-- the shorter one
abbrev pub IsFirstDifference : List WholeArgType → List WholeArgType → Option ℕ → Type 0
IsFirstDifference types others None = types ≡ others
IsFirstDifference types others (Some index) =
    (slice_get types index ≢ slice_get others index)
    × ((k : ℕ) → k < index → slice_get types k ≡ slice_get others k)

-- two texts are accepted, and this is where their types differ
pub record ComparesArgumentTypes (model : Model) (first second : Text) (index : Option ℕ) : Type 0 where
  pub types : List WholeArgType
  pub others : List WholeArgType
  pub first_accepted : HasArguments model first types
  pub second_accepted : HasArguments model second others
  pub difference : IsFirstDifference types others index

-- the second list is a beginning of the first, or this is the first index at which it has a type
-- that the first doesn't have there
abbrev pub IsFirstExcess : List WholeArgType → List WholeArgType → Option ℕ → Type 0
IsFirstExcess types others None = (more : List WholeArgType) × (types ≡ others ++ more)
IsFirstExcess types others (Some index) =
    (index < length others) × IsFirstDifference types others (Some index)

-- two texts are accepted, and this is where the second takes an argument that the first doesn't take:
-- arguments that are left over are ignored (C11 7.21.6.1 p2)
pub record ComparesBeginning (model : Model) (first second : Text) (index : Option ℕ) : Type 0 where
  pub types : List WholeArgType
  pub others : List WholeArgType
  pub first_accepted : HasArguments model first types
  pub second_accepted : HasArguments model second others
  pub excess : IsFirstExcess types others index

-- one of two texts is rejected, and the first of them that is
abbrev pub FaultForFits : Model → Text → Text → Side × Refusal → Type 0
FaultForFits model first second fault =
    RefusesOne (IsWholeAccepted model) (IsWholeRefusedAt model) first second fault.0 fault.1

-- why there is no list of types: `Memory` only if a text is accepted and takes arguments
abbrev pub FaultForArguments : Model → Text → TextFault → Type 0
FaultForArguments model t (faults.Refused refusal) = IsWholeRefusedAt model t refusal.kind refusal.at
FaultForArguments model t faults.Memory =
    (types : List WholeArgType) × HasArguments model t types × (types ≢ [])

-- nowhere in the text come the two bytes `%m`
abbrev pub IsWithoutErrno : Text → Type 0
IsWithoutErrno t = (front rest : Text) → t ≢ front ++ errno ++ rest

-- the item is one that the standards have in `fprintf`: an ordinary character or a conversion specification
abbrev pub IsOfFprintf : WholeItem → Type 0
IsOfFprintf (Byte byte) = ⊤
IsOfFprintf (Specification s) = ⊤
IsOfFprintf Errno = ⊥

-- The item `%m` makes no difference to a text: it is read as other items alone, and no byte of it is kept from being
-- rejected since it would end `%m`.
pub record HasNoPartOfErrno (t : Text) : Type 0 where
  pub items : (items : List WholeItem) → ReadsWhole t items → AllByRecursion IsOfFprintf items
  pub bytes : (whole part rest : Text) (byte : ℕ) → t ≡ whole ++ part ++ byte ∷ rest → part ≡ percent ∷ []
      → byte ≢ errno_letter
