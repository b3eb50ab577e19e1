use Rattle.std.proofs.Common.{◌-◌, ◌<◌, ◌≤◌, length}
use Rattle.pf_canon.specs.ChangedDirectives.{between}
use Rattle.pf_canon.specs.Making.{IsBetweenRuns, IsWritten, PutsItems}
use Rattle.pf_canon.proofs.items.put_reduced.Given as goal

abbrev pub invariant-loop-found : goal.invariant-loop-found
invariant-loop-found g l = record {
  low : l.fn.from ≤ l.at;
  within : l.at ≤ length l.fn.walk.text.now;
  few : l.held ≤ l.at;
  some : 0 < l.held → l.fn.from < l.at;
  next : IsBetweenRuns l.fn.walk.text.now l.at;
  put : PutsItems g.S.Sink.given (IsWritten l.fn.model) l.fn.sink l.sink (between l.fn.from l.at l.fn.walk.text.now) 0 l.held;
}

abbrev pub decreases-loop-found : goal.decreases-loop-found
decreases-loop-found g l = length l.fn.walk.text.now - l.at
