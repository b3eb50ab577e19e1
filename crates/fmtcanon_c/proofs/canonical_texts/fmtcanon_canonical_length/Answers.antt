use Rattle.std.proofs.Common.{◌≡◌, arith, to_z, of_z}
use Rattle.std.specs.Int.{w64}
use Rattle.std.proofs.lemmas.Int.{ints}
use Rattle.pf_values.specs.meaning.Refusals.{IsRefusedAt}
use Rattle.pf_canon.specs.Answers.{IsCanonicalFor}
use Rattle.fmtcanon_c.proofs.AnswerLemmas.{length_answered}
use Rattle.fmtcanon_c.proofs.ModelAnswers.{in_model}
use Rattle.fmtcanon_c.proofs.canonical_texts.fmtcanon_canonical_length.Goals as goal

pub returns : goal.returns
returns c =
    let code : to_z w64 (of_z w64 c.length_answer.result) ≡ c.length_answer.result = omega (arith, ints) in
    rw code (in_model c.args.model _ _ _ c.in-Some.model c.ranges.model c.in-Some.ensures
    (length_answered (IsCanonicalFor c.in-Some.model c.args.text.now) (IsRefusedAt c.args.text.now) _ c.args.error.now _ _ c.canonical_len.ensures
    c.length_answer.ensures))
