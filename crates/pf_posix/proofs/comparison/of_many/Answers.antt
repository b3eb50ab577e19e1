use Rattle.std.proofs.Common.{arith}
use Rattle.pf_posix.proofs.DifferenceLemmas.{counted, counted_too, few_of_counts}
use Rattle.pf_posix.proofs.comparison.of_many.Goals as goal

pub difference_in_order-requires-clause-many : goal.difference_in_order-requires-clause-many
difference_in_order-requires-clause-many c = (omega (arith, c.min.ensures, c.if-min.true), omega (arith, c.min.ensures, c.if-min.true))

pub returns-then-min : goal.returns-then-min
returns-then-min c = counted c.args.model c.args.first.now c.args.second.now _ c.args.count c.requires c.difference_in_order.ensures

pub by_tables-requires : goal.by_tables-requires
by_tables-requires c = few_of_counts c.args.model c.args.first.now c.args.second.now c.args.count c.args.second_count c.requires
    (omega (arith, c.min.ensures, c.if-min.false))

pub returns-in-Ok : goal.returns-in-Ok
returns-in-Ok c = counted_too c.args.model c.args.first.now c.args.second.now _ c.args.count c.requires c.in-Ok.ensures
