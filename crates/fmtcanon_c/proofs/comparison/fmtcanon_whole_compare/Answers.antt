use Rattle.std.proofs.Common.{◌≡◌, arith, refl, to_z, of_z}
use Rattle.std.specs.Int.{w64}
use Rattle.std.proofs.lemmas.Int.{ints}
use Rattle.pf_whole.proofs.VerdictLemmas.{shown_needs}
use Rattle.pf_whole.specs.Comparisons.{FaultForWholeCompare}
use Rattle.fmtcanon_c.specs.Comparisons.{IsUncountedVerdict}
use Rattle.fmtcanon_c.proofs.AnswerLemmas.{answered}
use Rattle.fmtcanon_c.proofs.ModelAnswers.{in_model}
use Rattle.fmtcanon_c.proofs.comparison.fmtcanon_whole_compare.Goals as goal

pub returns-in-Ok : goal.returns-in-Ok
returns-in-Ok c =
    let model = c.in-Some.model in
    let first = c.args.first.now in
    let second = c.args.second.now in
    let is = c.in-Ok.ensures in
    let code : to_z w64 (of_z w64 c.put_verdict.result) ≡ c.put_verdict.result = omega (arith, ints) in
    rw code (in_model c.args.model _ _ _ model c.ranges.model c.in-Some.ensures
    (answered (IsUncountedVerdict model first second) (FaultForWholeCompare model first second) _ _ _ _ _ _ c.in-Ok.verdict 0 (is, refl)
    (shown_needs model first second c.in-Ok.verdict is) (c.put_verdict.ensures c.args.error.now)))
