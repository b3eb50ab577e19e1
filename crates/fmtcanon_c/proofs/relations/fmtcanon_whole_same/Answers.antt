use Rattle.std.proofs.Common.{◌≡◌, arith, of_z, to_z}
use Rattle.std.specs.Int.{w32, w64}
use Rattle.std.proofs.lemmas.Int.{ints}
use Rattle.fmtcanon_c.proofs.relations.fmtcanon_whole_same.Goals as goal

pub returns : goal.returns
returns c =
    let number : to_z w32 (of_z w32 c.args.model) ≡ c.args.model = omega (arith, ints, c.ranges.model) in
    let code : to_z w64 (of_z w64 c.are_related.result) ≡ c.are_related.result = omega (arith, ints) in
    rw code (rw number at c.are_related.ensures)
