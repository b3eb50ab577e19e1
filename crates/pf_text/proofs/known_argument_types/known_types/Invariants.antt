use Rattle.std.proofs.Common.{◌≡◌, ◌-◌, ◌≤◌, drop, length, take}
use Rattle.pf_values.specs.declared.limits.TheConstants.{MAX_TEXT_LEN}
use Rattle.pf_text.proofs.ReadingLemmas.{HasTyped}
use Rattle.pf_text.proofs.known_argument_types.known_types.Given as goal

abbrev pub invariant-loop-model : goal.invariant-loop-model
invariant-loop-model l = record {
  room : l.count ≤ length l.types;
  typed : HasTyped l.model l.text l.walk (take l.count l.types);
  rest : drop l.count l.types ≡ drop l.count l.fn.types;
}

abbrev pub decreases-loop-model : goal.decreases-loop-model
decreases-loop-model l = length (take MAX_TEXT_LEN l.text) - l.walk.at
