use Rattle.std.proofs.Common.{◌≡◌, ◌≤◌, ◌+◌, ◌-◌, ◌*◌, false, drop, length}
use Rattle.pf_literals.specs.Encoding.{spelled}
use Rattle.pf_literals.proofs.encoding.written_len.Given as goal

abbrev pub invariant-loop-at : goal.invariant-loop-at
invariant-loop-at l = record {
  within : l.at ≤ length l.text;
  few : l.len ≤ 4 * l.at;
  rest : l.len + length (spelled l.after (drop l.at l.text)) ≡ length (spelled false (drop l.from l.text));
}

abbrev pub decreases-loop-at : goal.decreases-loop-at
decreases-loop-at l = length l.text - l.at
