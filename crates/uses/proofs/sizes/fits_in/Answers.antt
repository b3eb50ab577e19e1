use Rattle.std.proofs.Common.{◌≤◌, IsTrue, length, arith}
use Rattle.std.specs.Prelude.{nat_lt}
use Rattle.std.proofs.lemmas.Bool.Decides.{nat_tests}
use Rattle.uses.proofs.sizes.fits_in.Goals as goal

pub returns-in-Some : goal.returns-in-Some
returns-in-Some c smaller items args out has typed prints =
    let between = c.printed_between.ensures c.args.model c.args.format.now out c.in-Ok.found.least c.in-Ok.found.greatest items args c.in-Ok.ensures has typed prints in
    let most : length out ≤ c.in-Some.greatest = rw c.in-Some.is at between.to_greatest in
    let less : IsTrue (nat_lt c.in-Some.greatest c.args.size) = smaller in
    grind (arith, nat_tests)
