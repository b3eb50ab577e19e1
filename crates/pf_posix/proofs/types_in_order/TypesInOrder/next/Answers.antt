use Rattle.std.proofs.Common.{◌∷◌}
use Rattle.pf_posix.proofs.types_in_order.TypesInOrder.next.Goals as goal

pub returns : goal.returns
returns c first rest h =
    let filled = c.fill.ensures (first ∷ rest) h in
    c.take_one.ensures c.args.model first rest (filled.1 (λ e. cc)) filled.0
