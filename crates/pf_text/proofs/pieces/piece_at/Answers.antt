use Rattle.std.proofs.Common.{arith}
use Rattle.pf_text.proofs.NoItemLemmas.{none_at_percent}
use Rattle.pf_text.proofs.pieces.piece_at.Goals as goal

pub returns-in_err-found : goal.returns-in_err-found
returns-in_err-found c =
    rw c.from_residual.ensures (none_at_percent c.args.text.now c.args.at (omega (arith, c.if-at-text-2.false), c.if-text-at-ne37.false)
    c.if-text-at-eq37.false c.in_err-found.ensures)
