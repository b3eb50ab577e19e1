-- Two formats of the profile compare in the whole language as they do in the profile.
use Rattle.std.proofs.Common.{◌≡◌, refl}
use Rattle.pf_values.specs.declared.models.Model.{Model}
use Rattle.pf_values.specs.meaning.Text.{Text}
use Rattle.pf_compare.specs.Answers.{IsComparisonOf, IsVerdict}
use Rattle.pf_compare.specs.declared.comparisons.Comparison.{Comparison}
use Rattle.pf_compare.specs.declared.comparisons.Verdict.{Verdict}
use Rattle.pf_compare.specs.declared.comparisons.Verdict.TheVariants as compared
use Rattle.pf_whole.specs.Answers.{IsWholeComparisonOf}
use Rattle.pf_whole.specs.Comparisons.{whole_verdict}
use Rattle.pf_whole.specs.Laws.{ProfileCompares}
use Rattle.pf_whole.proofs.OneVerdict.{one_verdict}
use Rattle.pf_whole.proofs.ProfileVerdicts.{profile_same, profile_shown, profile_types}

compares : (model : Model) (t u : Text) (comparison : Comparison) (h : IsComparisonOf model t u comparison) (verdict : Verdict)
    → comparison.verdict ≡ verdict → IsVerdict model t u h.first h.second verdict comparison.renderings → IsWholeComparisonOf model t u (whole_verdict verdict)
compares model t u comparison h compared.Same e is = profile_same model t u h.first h.second h.accepted_first h.accepted_second is.0
compares model t u comparison h (compared.Types index) e is =
    profile_types model t u h.first h.second h.accepted_first h.accepted_second (λ alike. let same = h.same.1 alike in cc) index is.0.differ is.0.same
compares model t u comparison h (compared.Args args) e is =
    profile_shown model t u h.first h.second h.accepted_first h.accepted_second (λ alike. let same = h.same.1 alike in cc) args.items comparison.renderings
    is.0 is.2

pub profile_compares : (model : Model) → ProfileCompares model
profile_compares model t u comparison h =
    let is = compares model t u comparison h comparison.verdict refl h.verdict in
    (is, λ other k. one_verdict model t u other (whole_verdict comparison.verdict) k is)
