use Rattle.std.proofs.Common.{◌≡◌, ◌∙◌, arith, inl, inr, of_z, refl, sym, to_z}
use Rattle.std.specs.Int.{w64}
use Rattle.std.proofs.lemmas.Bool.{false≢true}
use Rattle.std.proofs.lemmas.Int.{ints}
use Rattle.fmtcanon_c.proofs.ModelAnswers.{in_model}
use Rattle.fmtcanon_c.proofs.relations.are_related.Goals as goal

pub returns-in-Ok-false : goal.returns-in-Ok-false
returns-in-Ok-false c =
    let h = c.in-Ok-false.ensures in
    in_model c.args.model _ _ _ c.in-Some.model c.ranges.model c.in-Some.ensures
    (inl (
      h.0,
      inr (λ so. false≢true (sym c.in-Ok-false.field-0-test ∙ h.1.1 so), refl),
      inr (λ one. false≢true (sym c.in-Ok-false.field-0-test ∙ h.2.1 one), refl),
      refl,
    ))

pub returns-in-Err : goal.returns-in-Err
returns-in-Err c =
    let put = c.put_refusal in
    let code : to_z w64 (of_z w64 put.result) ≡ put.result = omega (arith, ints) in
    rw code (in_model c.args.model _ _ _ c.in-Some.model c.ranges.model c.in-Some.ensures (inr (
      (c.in-Err.side, c.in-Err.refusal),
      c.in-Err.ensures,
      record { at_is = put.ensures.at; code_is = put.ensures.code; kind_is = put.ensures.kind; side_is = put.ensures.side },
    )))
