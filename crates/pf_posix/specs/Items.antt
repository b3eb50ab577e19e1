-- The items of a text in the whole language, and the types of its arguments.
use Prim.Native.Char.{code}
use Rattle.std.specs.Prelude.{◌≡◌, ◌≢◌, ℕ, ◌≤◌, List, [], ◌∷◌, ◌++◌, length, MatchBool, ◌==◌}
use Rattle.pf_values.specs.declared.limits.TheConstants.{MAX_TEXT_LEN}
use Rattle.pf_values.specs.declared.models.Model.{Model}
use Rattle.pf_values.specs.meaning.Text.{Text, percent}
use Rattle.pf_posix.specs.declared.fetches.Fetch.{Fetch}
use Rattle.pf_posix.specs.declared.types.WholeArgType.{WholeArgType}
use Rattle.pf_posix.specs.Defined.{IsWholeDefined}
use Rattle.pf_posix.specs.Specifications.{WholeSpecification}
use Rattle.pf_posix.specs.Spelling.{SpellsWhole}
use Rattle.pf_posix.specs.Types.{HaveTypes, fetches}

-- the letter of `%m`
abbrev pub errno_letter : ℕ
errno_letter = code "m"

-- `%m`, which prints the message of `errno` (POSIX syslog)
abbrev pub errno : Text
errno = percent ∷ errno_letter ∷ []

-- an ordinary character, a conversion specification (C11 7.21.6.1 p3), or `%m`
pub data WholeItem : Type 0 where
  Byte : (byte : ℕ) → WholeItem
  Specification : (s : WholeSpecification) → WholeItem
  Errno : WholeItem

-- `%%` for the byte `%` (C11 7.21.6.1 p8), any other byte but zero for itself (p3), a specification
-- for its parts (p4), if they are defined together (p4 to p9), and `%m` as it is
abbrev pub IsWholeReadAs : Text → WholeItem → Type 0
IsWholeReadAs t (Byte byte) =
    MatchBool (byte == percent) (t ≡ percent ∷ percent ∷ []) ((byte ≢ 0) × (t ≡ byte ∷ []))
IsWholeReadAs t (Specification s) = SpellsWhole t s × IsWholeDefined s
IsWholeReadAs t Errno = t ≡ errno

-- a text is the texts of its items, one after another (C11 7.21.6.1 p3)
abbrev pub ReadsWhole : Text → List WholeItem → Type 0
ReadsWhole t [] = t ≡ []
ReadsWhole t (item ∷ items) =
    (first rest : Text) × IsWholeReadAs first item × ReadsWhole rest items × (t ≡ first ++ rest)

-- what the items fetch, in order (C11 7.21.6.1 p3); `%m` fetches nothing (POSIX syslog)
abbrev pub fetched : Model → List WholeItem → List Fetch
fetched model [] = []
fetched model (Byte byte ∷ items) = fetched model items
fetched model (Specification s ∷ items) = fetches model s ++ fetched model items
fetched model (Errno ∷ items) = fetched model items

-- a text is accepted, and takes arguments of these types; the limit is this project's own
pub record HasArguments (model : Model) (t : Text) (types : List WholeArgType) : Type 0 where
  pub items : List WholeItem
  pub reads : ReadsWhole t items
  pub limit : length t ≤ MAX_TEXT_LEN
  pub types_are : HaveTypes (fetched model items) types

-- a text is accepted
abbrev pub IsWholeAccepted : Model → Text → Type 0
IsWholeAccepted model t = (types : List WholeArgType) × HasArguments model t types
