-- What a comparison answers, as the code holds it.
use Rattle.std.specs.Prelude.{◌≡◌, ◌⊎◌, ◌+◌, ℕ, List, map, option_map, Option, Some, None, slice_get, slice_set, ⊤}
use Rattle.std.specs.List.{AllZip}
use Rattle.pf_values.specs.declared.models.Model.{Model}
use Rattle.pf_values.specs.Candidates.{neutrals}
use Rattle.pf_values.specs.meaning.Arguments.{Argument}
use Rattle.pf_values.specs.meaning.Items.{HasItems, Item, Reads, types}
use Rattle.pf_values.specs.meaning.Printing.{PrintAlike}
use Rattle.pf_values.specs.meaning.Text.{Text}
use Rattle.pf_compare.specs.declared.comparisons.Difference.{Difference}
use Rattle.pf_compare.specs.declared.comparisons.Difference.TheVariants as differences
use Rattle.pf_compare.specs.declared.witnesses.Probe.{Probe}
use Rattle.pf_compare.specs.declared.comparisons.Verdict.{Verdict}
use Rattle.pf_compare.specs.declared.comparisons.Verdict.TheVariants as compared
use Rattle.pf_compare.specs.declared.owned_args.OwnedArg.{OwnedArg}
use Rattle.pf_compare.specs.Answers.{IsDifferenceOf, IsProbeOf, PrintTheSame, PrintUnlike, renderings_of}
use Rattle.pf_compare.specs.Witnesses.{AreArgumentsOf, AreNeutral, DifferBy}
use Rattle.pf_compare.specs.Owned.{argument_of_owned, type_of_owned}
use Rattle.pf_posix.specs.declared.types.WholeArgType.{WholeArgType}
use Rattle.pf_posix.specs.Types.{widened}
use Rattle.pf_whole.specs.declared.verdicts.Finding.{Finding}
use Rattle.pf_whole.specs.declared.verdicts.Finding.TheVariants as findings
use Rattle.pf_compare.specs.declared.comparisons.CompareFault.{CompareFault}
use Rattle.pf_compare.specs.declared.comparisons.CompareFault.TheVariants.{Refused, Memory}
use Rattle.pf_whole.specs.declared.verdicts.WholeVerdict.{WholeVerdict}
use Rattle.pf_whole.specs.declared.verdicts.WholeVerdict.TheVariants as verdicts
use Rattle.pf_whole.specs.Answers as answers
use Rattle.pf_whole.specs.Answers.{HaveOneShape, IsWholeComparisonOf, ShowsNeutral, ShowsProbe, neutral_shown}
use Rattle.pf_whole.specs.Faults.{FaultForWholeSame}
use Rattle.pf_posix.specs.Stretches.{Stretches, ReadsStretches, IsUnnumberedAccepted, whole_types}
use Rattle.pf_whole.specs.meaning.Traces.{AreWholeAlike}

-- the arguments that are shown
abbrev pub shown_as : List (Option OwnedArg) → List (Option Argument)
shown_as shown = map (option_map argument_of_owned) shown

-- an argument has its type, if it is shown
abbrev pub HasShownType : Option OwnedArg → WholeArgType → Type 0
HasShownType None type = ⊤
HasShownType (Some argument) type = widened (type_of_owned argument) ≡ type

abbrev pub verdict_of : WholeVerdict → answers.WholeVerdict
verdict_of verdicts.Same = answers.Same
verdict_of (verdicts.Types index) = answers.TypesDiffer index
verdict_of (verdicts.Directives index) = answers.DirectivesDiffer index
verdict_of (verdicts.Args shown) = answers.Different (shown_as shown.items)

-- a verdict shows arguments
abbrev pub ShowsArguments : WholeVerdict → Type 0
ShowsArguments (verdicts.Args shown) = ⊤
ShowsArguments _ = ⊥

-- these arguments show in what a text differs from another one: neutral ones, or those of a probe
abbrev pub ShowDifference : Model → List Item → Difference → List OwnedArg → Type 0
ShowDifference model items differences.Neutral args = AreNeutral (types model items) args
ShowDifference model items (differences.Probe probe) args = AreArgumentsOf (types model items) probe args
ShowDifference model items _ args = ⊥

-- in what a text of the profile differs from another one, as a verdict of the whole language
abbrev pub IsVerdictOf : Model → Text → Difference → WholeVerdict → Type 0
IsVerdictOf model t difference verdicts.Same = difference ≡ differences.Nowhere
IsVerdictOf model t difference (verdicts.Types index) = difference ≡ differences.Types index
IsVerdictOf model t difference (verdicts.Directives index) = ⊥
IsVerdictOf model t difference (verdicts.Args shown) = (items : List Item) → Reads t items
    → (args : List OwnedArg) × ShowDifference model items difference args × (shown.items ≡ map Some args)

-- what a verdict of the profile is in the whole language: all of its arguments are shown
abbrev pub whole_verdict : Verdict → answers.WholeVerdict
whole_verdict compared.Same = answers.Same
whole_verdict (compared.Types index) = answers.TypesDiffer index
whole_verdict (compared.Args args) = answers.Different (shown_as (map Some args.items))

-- two formats of the profile are compared
abbrev pub IsProfileVerdict : Model → Text → Text → WholeVerdict → ℕ → Type 0
IsProfileVerdict model t u verdict renderings =
    (difference : Difference) × IsDifferenceOf model t u difference
    × IsVerdictOf model t difference verdict × (renderings ≡ renderings_of difference)

-- each argument that is shown has the type of the text's argument
abbrev pub AreShownTyped : Model → Text → WholeVerdict → Type 0
AreShownTyped model t (verdicts.Args shown) = (a : Stretches) → ReadsStretches t a
    → AllZip HasShownType shown.items (whole_types model a)
AreShownTyped model t _ = ⊤

-- the answer to two accepted texts
pub record IsComparison (model : Model) (t u : Text) (verdict : WholeVerdict) : Type 0 where
  pub is : IsWholeComparisonOf model t u (verdict_of verdict)
  pub typed : AreShownTyped model t verdict

-- Why two texts are not compared. Memory can be refused only if both are accepted, have equal types and
-- calls, and are not alike.
abbrev pub FaultForWholeCompare : Model → Text → Text → CompareFault → Type 0
FaultForWholeCompare model t u (Refused side refusal) = FaultForWholeSame model t u (side, refusal)
FaultForWholeCompare model t u Memory = IsUnnumberedAccepted t × IsUnnumberedAccepted u × (¬ AreWholeAlike model t u)
    × ((a b : Stretches) → ReadsStretches t a → ReadsStretches u b → HaveOneShape model a b)

-- in what two stretches of equal types differ
abbrev pub IsStretchDifference : Model → Text → Text → Difference → Type 0
IsStretchDifference model t u differences.Nowhere = (xs ys : List Item) → HasItems t xs → HasItems u ys
    → PrintAlike model xs ys
IsStretchDifference model t u difference = (xs ys : List Item) → HasItems t xs → HasItems u ys
    → DifferBy model xs ys difference

-- A probe that was found before stays, if neutral arguments don't tell two stretches apart. Otherwise the first
-- probe that tells them apart is found, at its index in the whole text, or they print alike.
abbrev pub IsFinding : Model → List Item → List Item → ℕ → Option Probe → Finding → Type 0
IsFinding model xs ys index found findings.Neutral = PrintUnlike model xs ys (neutrals (types model xs))
IsFinding model xs ys index (Some before) (findings.Probe now) =
    PrintTheSame model xs ys (neutrals (types model xs)) × (now ≡ Some before)
IsFinding model xs ys index None (findings.Probe None) = PrintAlike model xs ys
IsFinding model xs ys index None (findings.Probe (Some now)) = (probe : Probe)
    × PrintTheSame model xs ys (neutrals (types model xs)) × IsProbeOf model xs ys probe
    × (now ≡ record { index = index + probe.index; argument = probe.argument; renderings = probe.renderings })

abbrev pub IsFoundNext : Model → Text → Text → ℕ → Option Probe → Finding → Type 0
IsFoundNext model t u index found now = (xs ys : List Item) → HasItems t xs → HasItems u ys
    → IsFinding model xs ys index found now

-- what is shown for a probe, or for neutral arguments
abbrev pub shown_for : Model → Stretches → Option Probe → List (Option Argument)
shown_for model a None = neutral_shown model a
shown_for model a (Some probe) = slice_set (neutral_shown model a) probe.index (Some (argument_of_owned probe.argument))

-- the argument of a probe has the type that it is for
abbrev pub IsTypedProbe : Model → Stretches → Option Probe → Type 0
IsTypedProbe model a None = ⊤
IsTypedProbe model a (Some probe) =
    slice_get (whole_types model a) probe.index ≡ Some (widened (type_of_owned probe.argument))

-- neutral arguments are shown, or those of the first probe that tells the texts apart
abbrev pub ShowsDifference : Model → Stretches → Stretches → List (Option Argument) → Type 0
ShowsDifference model a b shown = ShowsNeutral model a b shown ⊎ ShowsProbe model a b shown

-- a difference is shown for neutral arguments, or for the first probe
abbrev pub IsFoundDifference : Model → Stretches → Stretches → Option Probe → Type 0
IsFoundDifference model a b found = ShowsDifference model a b (shown_for model a found) × IsTypedProbe model a found
