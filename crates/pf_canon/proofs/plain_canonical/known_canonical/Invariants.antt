use Rattle.std.proofs.Common.{length, ◌-◌, ◌≤◌, take}
use Rattle.pf_canon.proofs.KnownLemmas.{IsKeptIn}
use Rattle.pf_canon.proofs.plain_canonical.known_canonical.Given as goal

abbrev pub invariant-loop-at : goal.invariant-loop-at
invariant-loop-at g l = record {
  within : l.at ≤ length l.text;
  kept : IsKeptIn g.L.Language.has_front l.fn.model (take l.at l.text);
}

abbrev pub decreases-loop-at : goal.decreases-loop-at
decreases-loop-at g l = length l.text - l.at
