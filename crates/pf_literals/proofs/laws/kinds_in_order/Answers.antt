use Rattle.std.proofs.Common.{refl}
use Rattle.pf_literals.specs.declared.faults.LiteralKind.TheVariants.{NoLiteral}
use Rattle.pf_literals.proofs.laws.kinds_in_order.Goals as goal

pub returns : goal.returns
returns c NoLiteral = refl
returns c _ = refl
