use Rattle.fmtcanon.proofs.PrintingLemmas.{only_memory_hinders}
use Rattle.fmtcanon.proofs.answer.print_format.Goals as goal

pub unreachable-requires : goal.unreachable-requires
unreachable-requires c = c.in_default.not-Memory (only_memory_hinders c.args.model _ _ _ c.in_ok-args.ensures.ok c.in-Err.fault
    (rw c.deref.ensures.value at c.in-Err.ensures))
