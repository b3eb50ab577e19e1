use Rattle.std.proofs.Common.{◌<◌, ◌≤◌, ap, length, arith, ◌∙◌}
use Rattle.pf_posix.proofs.ListLemmas.{filled_full, filled_set, length_filled}
use Rattle.pf_posix.proofs.argument_types.put.Goals as goal

pub returns-then-index-out-clause-filled : goal.returns-then-index-out-clause-filled
returns-then-index-out-clause-filled g c start before e p =
    let less : length before < length start = omega (arith, c.if-index-out.true, ap length e, length_filled start before, p) in
    rw (e, p) (filled_set start before c.args.element less)

pub returns-else-index-out-clause-filled : goal.returns-else-index-out-clause-filled
returns-else-index-out-clause-filled g c start before e p =
    let full : length start ≤ length before = omega (arith, c.if-index-out.false, ap length e, length_filled start before, p) in
    e ∙ filled_full start before _ full
