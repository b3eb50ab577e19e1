use Rattle.std.proofs.Common.{◌≤◌}
use Rattle.pf_text.proofs.SignatureLemmas.{HasFound}
use Rattle.pf_text.proofs.argument_types.push_types.Given as goal

abbrev pub invariant-loop-piece : goal.invariant-loop-piece
invariant-loop-piece g l = record {
  can : (goal.iterator-loop-piece g).can_next l.piece-iterator;
  finite : (goal.iterator-loop-piece g).is_finite l.piece-iterator;
  found : HasFound l.model l.piece-iterator l.text l.found.items;
  room : 8 ≤ l.found.capacity;
}
