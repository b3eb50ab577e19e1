use Rattle.std.proofs.Common.{flat_map, take}
use Rattle.pf_text.specs.History.{IsAfter}
use Rattle.pf_text.specs.WholeRuns.{ended_by}
use Rattle.pf_text.proofs.laws.whole_run_of_steps.Given as goal

abbrev pub invariant-loop-byte : goal.invariant-loop-byte
invariant-loop-byte l = record {
  taken : IsAfter l.scanner (take l.byte-index l.fn.text) (flat_map ended_by l.made.items);
}
