use Rattle.std.proofs.Common.{◌-◌, ◌≤◌, length}
use Rattle.pf_canon.specs.Languages.{IsWrittenIn}
use Rattle.pf_canon.specs.Making.{IsBetweenRuns}
use Rattle.pf_canon.proofs.ItemLemmas.{PutsUpTo}
use Rattle.pf_canon.proofs.items.put_items.Given as goal

abbrev pub invariant-loop-at : goal.invariant-loop-at
invariant-loop-at g l = record {
  first : l.fn.from ≤ l.at;
  further : l.fn.walk.at ≤ l.at;
  low : l.from ≤ l.at;
  within : l.at ≤ length l.fn.walk.text.now;
  next : IsBetweenRuns l.fn.walk.text.now l.at;
  put : PutsUpTo g.S.Sink.given (IsWrittenIn g.L.Language.has_front l.fn.model) l.fn.walk.text.now l.fn.from l.fn.sink l.sink l.from l.at;
}

abbrev pub decreases-loop-at : goal.decreases-loop-at
decreases-loop-at g l = length l.fn.walk.text.now - l.at
