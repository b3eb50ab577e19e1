use Rattle.std.proofs.Common.{◌≡◌, ℕ, subst}
use Rattle.pf_compare.specs.declared.comparisons.Verdict.{Verdict}
use Rattle.pf_compare.specs.declared.comparisons.Verdict.TheVariants.{Args, Same, Types}
use Rattle.pf_whole.specs.Answers.{IsWholeComparisonOf, TypesDiffer}
use Rattle.pf_whole.specs.Comparisons.{verdict_of, whole_verdict}
use Rattle.pf_whole.specs.declared.verdicts.WholeVerdict.TheVariants as verdicts
use Rattle.uses.proofs.whole.other_types_at.Goals as goal

types_of_profile : (verdict : Verdict) (index : ℕ) → TypesDiffer index ≡ whole_verdict verdict → verdict ≡ Types index
types_of_profile Same index e = cc
types_of_profile (Types other) index e = cc
types_of_profile (Args args) index e = cc

pub returns-in-Ok-Types : goal.returns-in-Ok-Types
returns-in-Ok-Types c = λ comparison h.
    let is = c.in-Ok-Types.field-0-is in
    let same : verdict_of c.in-Ok-Types.field-0 ≡ verdict_of (verdicts.Types c.in-Ok-Types.index) = cc in
    let law = c.profile_compares.ensures c.args.model c.args.first.now c.args.second.now comparison h in
    types_of_profile comparison.verdict c.in-Ok-Types.index (law.1 (TypesDiffer c.in-Ok-Types.index)
    (subst (IsWholeComparisonOf c.args.model c.args.first.now c.args.second.now) same c.in-Ok-Types.ensures.is))
