use Rattle.std.proofs.Common.{arith}
use Rattle.pf_reduce.proofs.SignLemmas.{none_for, space_for}
use Rattle.pf_reduce.proofs.integers.sign_in_field.Goals as goal

pub returns-in-Space-clause-same : goal.returns-in-Space-clause-same
returns-in-Space-clause-same c = λ negative number h. space_for c.args.sign c.args.padding negative number c.in-Space.is c.if-padding.false
    (omega (arith, c.max.ensures))

pub returns-in-Space-2-clause-same : goal.returns-in-Space-2-clause-same
returns-in-Space-2-clause-same c = λ negative number h. none_for c.args.sign c.args.padding negative number c.in-Space-2.is c.if-padding.false
    (omega (arith, c.max.ensures))
