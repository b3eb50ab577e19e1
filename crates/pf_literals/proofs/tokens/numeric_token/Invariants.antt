use Rattle.std.proofs.Common.{◌≡◌, ◌≤◌, ◌-◌, length, drop}
use Rattle.pf_literals.specs.Tokens.{numeric_token}
use Rattle.pf_literals.proofs.tokens.numeric_token.Given as goal

abbrev pub invariant-loop-count : goal.invariant-loop-count
invariant-loop-count l = record {
  within : l.count ≤ length l.text;
  few : l.number ≤ 255;
  rest : numeric_token l.notation 0 0 l.text ≡ numeric_token l.notation l.count l.number (drop l.count l.text);
}

abbrev pub decreases-loop-count : goal.decreases-loop-count
decreases-loop-count l = length l.text - l.count
