-- Texts of the whole language: stretches of the profile, separated by what it lacks.
use Rattle.std.specs.Prelude.{◌≡◌, ◌≤◌, List, [], ◌++◌, length, map}
use Rattle.pf_values.specs.declared.limits.TheConstants.{MAX_TEXT_LEN}
use Rattle.pf_values.specs.declared.models.Model.{Model}
use Rattle.pf_values.specs.meaning.Items.{Item, Reads, types}
use Rattle.pf_values.specs.meaning.Text.{Text}
use Rattle.pf_posix.specs.declared.types.WholeArgType.{WholeArgType}
use Rattle.pf_posix.specs.Types.{fetches, widened}
use Rattle.pf_posix.specs.Opaque.{OpaqueErrno, OpaqueItem, OpaqueSpecification, SpellsOpaqueItem}

-- A stretch is a list of items of the profile, which may be empty. The last stretch ends the text;
-- each other one comes before an opaque directive or `%m` (C11 7.21.6.1 p3; POSIX syslog).
pub data Stretches : Type 0 where
  Last : (items : List Item) → Stretches
  Before : (items : List Item) (other : OpaqueItem) (rest : Stretches) → Stretches

-- a text is the texts of its stretches and of what is between them, in order (C11 7.21.6.1 p3)
abbrev pub ReadsStretches : Text → Stretches → Type 0
ReadsStretches t (Last items) = Reads t items
ReadsStretches t (Before items other rest) =
    (first middle back : Text) × Reads first items × SpellsOpaqueItem middle other × ReadsStretches back rest
    × (t ≡ first ++ middle ++ back)

-- a text is accepted if it is read as stretches, and is within the limit, which is this project's own
pub record IsUnnumberedAccepted (t : Text) : Type 0 where
  pub stretches : Stretches
  pub reads : ReadsStretches t stretches
  pub limit : length t ≤ MAX_TEXT_LEN

-- the types of the arguments of a specification: an int for each `*`, the width's first, and then the
-- conversion's (C11 7.21.6.1 p5); `%m` has none (POSIX syslog)
abbrev pub types_of_opaque : Model → OpaqueItem → List WholeArgType
types_of_opaque model (OpaqueSpecification s) = map (λ f. f.wanted) (fetches model s)
types_of_opaque model OpaqueErrno = []

-- the types of all arguments, in order (C11 7.21.6.1 p3)
abbrev pub whole_types : Model → Stretches → List WholeArgType
whole_types model (Last items) = map widened (types model items)
whole_types model (Before items other rest) =
    map widened (types model items) ++ (types_of_opaque model other ++ whole_types model rest)
