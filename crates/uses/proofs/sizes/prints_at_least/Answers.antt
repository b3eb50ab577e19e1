use Rattle.std.proofs.Common.{◌≤◌, IsTrue, length, arith}
use Rattle.std.specs.Prelude.{nat_le}
use Rattle.std.proofs.lemmas.Bool.Decides.{nat_tests}
use Rattle.uses.proofs.sizes.prints_at_least.Goals as goal

pub returns-in-Ok : goal.returns-in-Ok
returns-in-Ok c enough items args out has typed prints =
    let between = c.printed_between.ensures c.args.model c.args.format.now out c.in-Ok.found.least c.in-Ok.found.greatest items args c.in-Ok.ensures has typed prints in
    let least : c.in-Ok.found.least ≤ length out = between.from_least in
    let few : IsTrue (nat_le c.args.count c.in-Ok.found.least) = enough in
    grind (arith, nat_tests)
