use Rattle.std.proofs.Common.{take}
use Rattle.pf_canon.proofs.EarlyLemmas.{other_types}
use Rattle.pf_canon.proofs.early_difference.take_other_types.Goals as goal

pub returns : goal.returns
returns c = λ is.
    let one = c.in-Some in
    let two = c.in-Some-known_types in
    other_types c.args.model c.args.first.now c.args.second.now (take one.first_count c.known_types.new.types)
    (take two.second_count c.known_types-2.new.types) one.ensures.1 two.ensures.1 (c.are_unequal.ensures is)
