use Rattle.std.proofs.Common.{◌≡◌, ◌∙◌, arith, inr, refl, to_z, of_z}
use Rattle.std.specs.Int.{w64}
use Rattle.std.proofs.lemmas.Int.{ints}
use Rattle.pf_compare.specs.Answers.{FaultForCompare}
use Rattle.pf_compare.specs.declared.comparisons.CompareFault.TheVariants.{Memory}
use Rattle.pf_compare.proofs.VerdictLemmas.{shown_need}
use Rattle.pf_whole.proofs.ProfileVerdicts.{shows_shown}
use Rattle.pf_whole.specs.Comparisons.{IsProfileVerdict}
use Rattle.fmtcanon_c.proofs.AnswerLemmas.{answered}
use Rattle.fmtcanon_c.proofs.ModelAnswers.{in_model}
use Rattle.fmtcanon_c.proofs.comparison.fmtcanon_compare.Goals as goal

pub returns-in-Ok-of_profile : goal.returns-in-Ok-of_profile
returns-in-Ok-of_profile c =
    let model = c.in-Some.model in
    let first = c.args.first.now in
    let second = c.args.second.now in
    let found = c.in-Ok.found in
    let is = c.in-Ok.ensures in
    let verdict = c.in-Ok-of_profile.ensures in
    let code : to_z w64 (of_z w64 c.put_verdict.result) ≡ c.put_verdict.result = omega (arith, ints) in
    rw code (in_model c.args.model _ _ _ model c.ranges.model c.in-Some.ensures
    (answered (IsProfileVerdict model first second) (FaultForCompare model first second) _ _ _ _ _ _ c.in-Ok-of_profile.verdict
    c.from-renderings.result (found, is, verdict, c.from-renderings.ensures ∙ c.renderings.ensures)
    (λ shows. shown_need model first second found is (shows_shown model first second found is c.in-Ok-of_profile.verdict verdict shows))
    (c.put_verdict.ensures c.args.error.now)))

pub returns-in-Err-of_profile : goal.returns-in-Err-of_profile
returns-in-Err-of_profile c = in_model c.args.model _ _ _ c.in-Some.model c.ranges.model c.in-Some.ensures (inr (
  Memory,
  shown_need c.in-Some.model c.args.first.now c.args.second.now c.in-Ok.found c.in-Ok.ensures c.in-Err-of_profile.ensures,
  record { out_is = refl; answer_is = refl; code_is = (refl, refl) },
))
