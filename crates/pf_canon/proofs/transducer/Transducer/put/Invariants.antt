use Rattle.std.proofs.Common.{◌-◌, ◌≤◌, length, take}
use Rattle.pf_canon.specs.Transducer.{PutsBytes}
use Rattle.pf_canon.proofs.transducer.Transducer.put.Given as goal

abbrev pub invariant-loop-at : goal.invariant-loop-at
invariant-loop-at g l = record {
  within : l.at ≤ length l.block;
  put : PutsBytes g.S.Sink.given l.fn.sink l.sink l.fn.self l.self (take l.at l.block);
}

abbrev pub decreases-loop-at : goal.decreases-loop-at
decreases-loop-at g l = length l.block - l.at
