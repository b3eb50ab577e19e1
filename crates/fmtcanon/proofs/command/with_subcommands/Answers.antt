use Rattle.fmtcanon.proofs.CommandLemmas.{with_next}
use Rattle.fmtcanon.proofs.command.with_subcommands.Goals as goal

pub loop-row-preserved : goal.loop-row-preserved
loop-row-preserved c =
    with_next c.args.rows.now c.loop-row.row-index _ c.loop-row-test.true _ _ _ c.loop-row.invariant c.in_ok-subcommand.ensures.0
    (c.in_ok-command-2.ensures.shape c.in_ok-subcommand.ensures.1)
