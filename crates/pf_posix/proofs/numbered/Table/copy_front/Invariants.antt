use Rattle.std.proofs.Common.{◌≡◌, ◌≤◌, ◌-◌, List, length}
use Rattle.pf_posix.specs.declared.fetches.Fetch.{Fetch}
use Rattle.pf_posix.specs.Laws.{filled}
use Rattle.pf_posix.specs.Readings.{listed}
use Rattle.pf_posix.specs.Tables.{TableHolds}
use Rattle.pf_posix.proofs.numbered.Table.copy_front.Given as goal

abbrev pub invariant-loop-index : goal.invariant-loop-index
invariant-loop-index l = record {
  types : (seen : List Fetch) → TableHolds l.self seen → l.out ≡ filled l.fn.out (listed seen 0 l.index);
  length : length l.out ≡ length l.fn.out;
  few : l.index ≤ l.self.count;
}

abbrev pub decreases-loop-index : goal.decreases-loop-index
decreases-loop-index l = l.self.count - l.index
