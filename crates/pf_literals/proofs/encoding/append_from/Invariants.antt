use Rattle.std.proofs.Common.{◌≡◌, ◌≤◌, ◌-◌, ◌++◌, false, drop, length}
use Rattle.pf_literals.specs.Encoding.{spelled}
use Rattle.pf_literals.proofs.encoding.append_from.Given as goal

abbrev pub invariant-loop-at : goal.invariant-loop-at
invariant-loop-at g l = record {
  within : l.at ≤ length l.text;
  rest : l.out.items ++ spelled l.after (drop l.at l.text) ≡ l.fn.out.items ++ spelled false (drop l.from l.text);
}

abbrev pub decreases-loop-at : goal.decreases-loop-at
decreases-loop-at g l = length l.text - l.at
