use Rattle.std.proofs.Common.{◌<◌, ◌-◌, ℕ, List}
use Rattle.pf_posix.specs.declared.fetches.Fetch.{Fetch}
use Rattle.pf_posix.specs.Tables.{TableHolds}
use Rattle.pf_posix.specs.Types.{IsFetched}
use Rattle.pf_posix.proofs.numbered.Table.finish.Given as goal

abbrev pub invariant-loop-index : goal.invariant-loop-index
invariant-loop-index l = (seen : List Fetch) → TableHolds l.self seen → (index : ℕ) → index < l.index → IsFetched index seen

abbrev pub decreases-loop-index : goal.decreases-loop-index
decreases-loop-index l = l.self.count - l.index
