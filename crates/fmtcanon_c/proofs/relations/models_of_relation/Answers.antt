use Rattle.std.proofs.Common.{◌≡◌, arith, inl, of_z, pos, refl, to_z}
use Rattle.std.specs.Int.{w64}
use Rattle.std.proofs.lemmas.Int.{ints}
use Rattle.fmtcanon_c.proofs.relations.models_of_relation.Goals as goal

pub returns-in-Ok : goal.returns-in-Ok
returns-in-Ok c =
    let code : to_z w64 (of_z w64 c.from.result) ≡ pos c.in-Ok.sum = omega (arith, ints, c.from.ensures) in
    let h = c.in-Ok.ensures in
    inl (h.0, (c.in-Ok.sum, h.1, code), refl)
