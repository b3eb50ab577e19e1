-- What is found where the stretches of two texts are compared, side by side. This project's own.
use Rattle.std.specs.Prelude.{◌≡◌, ℕ, List, ◌++◌, map, Option, Some, None, ◌⊎◌}
use Rattle.pf_values.specs.declared.models.Model.{Model}
use Rattle.pf_values.specs.Candidates.{neutral, neutrals}
use Rattle.pf_values.specs.meaning.Arguments.{Argument}
use Rattle.pf_values.specs.meaning.Items.{Item, types}
use Rattle.pf_values.specs.meaning.Printing.{PrintAlike}
use Rattle.pf_compare.specs.Answers.{IsFirstProbe, PrintTheSame, PrintUnlike, probe_at}
use Rattle.pf_posix.specs.Opaque.{OpaqueItem}
use Rattle.pf_whole.specs.Answers.{neutral_shown}
use Rattle.pf_posix.specs.Stretches.{Stretches, Last, Before, types_of_opaque}

-- neutral arguments of a stretch
abbrev pub shown_neutrals : Model → List Item → List (Option Argument)
shown_neutrals model items = map (λ type. Some (neutral type)) (types model items)

-- any arguments of an opaque directive
abbrev pub shown_any : Model → OpaqueItem → List (Option Argument)
shown_any model s = map (λ type. None) (types_of_opaque model s)

-- for neutral arguments each stretch prints the same as the corresponding one
abbrev pub NeutralAgrees : Model → Stretches → Stretches → Type 0
NeutralAgrees model (Last a) (Last b) = PrintTheSame model a b (neutrals (types model a))
NeutralAgrees model (Last a) (Before b p more) = ⊥
NeutralAgrees model (Before a s rest) (Last b) = ⊥
NeutralAgrees model (Before a s rest) (Before b p more) =
    PrintTheSame model a b (neutrals (types model a)) × NeutralAgrees model rest more

-- for neutral arguments some stretch prints other bytes than the corresponding one
abbrev pub NeutralTells : Model → Stretches → Stretches → Type 0
NeutralTells model (Last a) (Last b) = PrintUnlike model a b (neutrals (types model a))
NeutralTells model (Last a) (Before b p more) = ⊥
NeutralTells model (Before a s rest) (Last b) = ⊥
NeutralTells model (Before a s rest) (Before b p more) =
    PrintUnlike model a b (neutrals (types model a)) ⊎ NeutralTells model rest more

-- the stretches print the same for neutral arguments, and these are the arguments of the first probe
-- that tells them apart
pub record IsTellingProbe (model : Model) (a b : List Item) (args : List Argument) : Type 0 where
  pub neutral_same : PrintTheSame model a b (neutrals (types model a))
  pub index : ℕ
  pub candidate_index : ℕ
  pub argument : Argument
  pub probe : IsFirstProbe model a b index candidate_index argument
  pub args_are : args ≡ probe_at (types model a) index argument

-- stretches print the same for neutral arguments, and before the one with the probe that is shown, for
-- all arguments
abbrev pub ShowsTelling : Model → Stretches → Stretches → List (Option Argument) → Type 0
ShowsTelling model (Last a) (Last b) shown =
    (args : List Argument) × (shown ≡ map Some args) × IsTellingProbe model a b args
ShowsTelling model (Last a) (Before b p more) shown = ⊥
ShowsTelling model (Before a s rest) (Last b) shown = ⊥
ShowsTelling model (Before a s rest) (Before b p more) shown =
    ((args : List Argument) × (shown ≡ map Some args ++ (shown_any model s ++ neutral_shown model rest))
    × IsTellingProbe model a b args × NeutralAgrees model rest more)
    ⊎ ((back : List (Option Argument))
    × (shown ≡ shown_neutrals model a ++ (shown_any model s ++ back))
    × PrintAlike model a b × ShowsTelling model rest more back)
