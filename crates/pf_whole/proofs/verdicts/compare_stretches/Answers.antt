use Rattle.std.proofs.Common.{rules}
use Rattle.pf_whole.proofs.StretchDifferences.{equal_stretches, stretches_differ}
use Rattle.pf_whole.proofs.verdicts.compare_stretches.Goals as goal

pub returns-then-are_equal : goal.returns-then-are_equal
returns-then-are_equal c = λ xs ys h g. equal_stretches c.args.model c.args.first.now c.args.second.now xs ys
    (c.are_equal.ensures (rw c.if-are_equal.true (search rules))) h g

pub returns-in-Ok : goal.returns-in-Ok
returns-in-Ok c = stretches_differ c.args.model c.args.first.now c.args.second.now c.requires c.in-Ok.difference c.in-Ok.ensures
