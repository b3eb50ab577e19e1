-- What the calls find, as verdicts on whole texts.
use Rattle.std.proofs.Common.{◌≡◌, ◌≢◌, ℕ, List, refl, sym, ap, ◌∙◌, subst}
use Rattle.std.specs.Prelude.{Option, Some, None}
use Rattle.pf_values.specs.declared.models.Model.{Model}
use Rattle.pf_values.specs.meaning.Arguments.{Argument}
use Rattle.pf_values.specs.meaning.Text.{Text}
use Rattle.pf_text.specs.declared.refusals.Refusal.{Refusal}
use Rattle.pf_text.specs.declared.refusals.Side.{Side}
use Rattle.pf_text.specs.declared.refusals.Side.TheVariants as sides
use Rattle.pf_posix.specs.Laws.{ComparesArgumentTypes, FaultForFits, IsFirstDifference}
use Rattle.pf_posix.specs.Stretches.{Stretches, ReadsStretches, IsUnnumberedAccepted, whole_types}
use Rattle.pf_posix.proofs.KeptTypes.{types_are_kept}
use Rattle.pf_posix.proofs.ReadOnce.{read_once}
use Rattle.pf_posix.proofs.Unique.{never_both, one_list}
use Rattle.pf_whole.specs.Answers.{IsWholeComparisonOf, IsWholeVerdict, WholeVerdict, Same, TypesDiffer, DirectivesDiffer, Different, HaveOneShape}
use Rattle.pf_whole.specs.Calls.{CallsDiffer}
use Rattle.pf_compare.specs.declared.comparisons.CompareFault.TheVariants as faults
use Rattle.pf_whole.specs.Comparisons.{FaultForWholeCompare, IsComparison, ShowsArguments, ShowsDifference}
use Rattle.pf_whole.specs.declared.verdicts.WholeVerdict as declared
use Rattle.pf_whole.specs.declared.verdicts.WholeVerdict.TheVariants as verdicts
use Rattle.pf_whole.specs.meaning.Traces.{AreWholeAlike, TraceAlike}
use Rattle.pf_whole.proofs.AnswerLemmas.{comparison_is}
use Rattle.pf_whole.proofs.Telling.{calls_give_shape}

-- the types that a comparison of types finds are those of the stretches
compared_types : (model : Model) (t u : Text) (index : Option ℕ) → (h : IsUnnumberedAccepted t) → (g : IsUnnumberedAccepted u)
    → ComparesArgumentTypes model t u index
    → IsFirstDifference (whole_types model h.stretches) (whole_types model g.stretches) index
compared_types model t u index h g found =
    let first : found.types ≡ whole_types model h.stretches =
    one_list model t found.types (whole_types model h.stretches) found.first_accepted (types_are_kept model t h.stretches h.reads h.limit) in
    let second : found.others ≡ whole_types model g.stretches =
    one_list model u found.others (whole_types model g.stretches) found.second_accepted (types_are_kept model u g.stretches g.reads g.limit) in
    subst (λ l. IsFirstDifference (whole_types model h.stretches) l index) second (subst (λ l. IsFirstDifference l found.others index) first found.difference)

-- a verdict on texts that aren't alike
apart_verdict : (model : Model) (t u : Text) (verdict : WholeVerdict) → (h : IsUnnumberedAccepted t) → (g : IsUnnumberedAccepted u) → ¬ AreWholeAlike model t u
    → verdict ≢ Same → IsWholeVerdict model h.stretches g.stretches verdict → IsWholeComparisonOf model t u verdict
apart_verdict model t u verdict h g apart other is =
    comparison_is model t u h g verdict (λ e. absurd (other e), λ alike. absurd (apart alike)) is

pub types_verdict : (model : Model) (t u : Text) (index : ℕ) → IsUnnumberedAccepted t → IsUnnumberedAccepted u → ¬ AreWholeAlike model t u
    → ComparesArgumentTypes model t u (Some index) → IsWholeComparisonOf model t u (TypesDiffer index)
types_verdict model t u index h g apart found =
    apart_verdict model t u (TypesDiffer index) h g apart (λ e. cc) (compared_types model t u (Some index) h g found)

pub calls_verdict : (model : Model) (t u : Text) (index : ℕ) → IsUnnumberedAccepted t → IsUnnumberedAccepted u → ¬ AreWholeAlike model t u
    → ComparesArgumentTypes model t u None → CallsDiffer model t u (Some index) → IsWholeComparisonOf model t u (DirectivesDiffer index)
calls_verdict model t u index h g apart types calls =
    apart_verdict model t u (DirectivesDiffer index) h g apart (λ e. cc)
    (compared_types model t u None h g types, calls h.stretches g.stretches h.reads g.reads)

-- texts of equal types and equal calls have one shape
pub shape_of : (model : Model) (t u : Text) (a b : Stretches) → IsUnnumberedAccepted t → IsUnnumberedAccepted u → ComparesArgumentTypes model t u None
    → CallsDiffer model t u None → ReadsStretches t a → ReadsStretches u b → HaveOneShape model a b
shape_of model t u a b h g types calls k l =
    let first : h.stretches ≡ a = read_once t h.stretches a h.reads k in
    let second : g.stretches ≡ b = read_once u g.stretches b g.reads l in
    let same : whole_types model h.stretches ≡ whole_types model g.stretches = compared_types model t u None h g types in
    calls_give_shape model t u a b k l (ap (whole_types model) (sym first) ∙ same ∙ ap (whole_types model) second) (calls a b k l)

pub shown_verdict : (model : Model) (t u : Text) (shown : List (Option Argument)) → IsUnnumberedAccepted t → IsUnnumberedAccepted u → ¬ AreWholeAlike model t u
    → ComparesArgumentTypes model t u None → CallsDiffer model t u None
    → ((a b : Stretches) → ReadsStretches t a → ReadsStretches u b → ShowsDifference model a b shown) → IsWholeComparisonOf model t u (Different shown)
shown_verdict model t u shown h g apart types calls shows =
    apart_verdict model t u (Different shown) h g apart (λ e. cc) (
      compared_types model t u None h g types,
      calls h.stretches g.stretches h.reads g.reads,
      shows h.stretches g.stretches h.reads g.reads,
    )

pub same_verdict : (model : Model) (t u : Text) → IsUnnumberedAccepted t → IsUnnumberedAccepted u → AreWholeAlike model t u → IsWholeComparisonOf model t u Same
same_verdict model t u h g alike =
    comparison_is model t u h g Same (λ e. alike, λ e. refl)
    (subst (λ a. TraceAlike model a g.stretches) (read_once t alike.first h.stretches alike.reads_first h.reads)
    (subst (λ b. TraceAlike model alike.first b) (read_once u alike.second g.stretches alike.reads_second g.reads) alike.alike))

-- texts that are accepted are compared by their types
pub fit_anyway : (model : Model) (t u : Text) (side : Side) (refusal : Refusal) → IsUnnumberedAccepted t → IsUnnumberedAccepted u
    → FaultForFits model t u (side, refusal) → ⊥
fit_anyway model t u sides.First refusal h g fault =
    never_both model t (whole_types model h.stretches) refusal.kind refusal.at (types_are_kept model t h.stretches h.reads h.limit) fault
fit_anyway model t u sides.Second refusal h g fault =
    never_both model u (whole_types model g.stretches) refusal.kind refusal.at (types_are_kept model u g.stretches g.reads g.limit) fault.1

-- arguments that are shown need memory
pub shown_needs : (model : Model) (t u : Text) (verdict : declared.WholeVerdict) → IsComparison model t u verdict → ShowsArguments verdict
    → FaultForWholeCompare model t u faults.Memory
shown_needs model t u verdicts.Same h shows = absurd shows
shown_needs model t u (verdicts.Types index) h shows = absurd shows
shown_needs model t u (verdicts.Directives index) h shows = absurd shows
shown_needs model t u (verdicts.Args shown) h shows =
    let first = h.is.first in
    let second = h.is.second in
    let shape = calls_give_shape model t u first.stretches second.stretches first.reads second.reads h.is.is.0 h.is.is.1 in (
      first,
      second,
      λ alike. let same = h.is.same.1 alike in cc,
      λ a b k l. subst (λ x. HaveOneShape model x b) (read_once t first.stretches a first.reads k)
          (subst (HaveOneShape model first.stretches) (read_once u second.stretches b second.reads l) shape),
    )
