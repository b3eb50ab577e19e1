use Rattle.fmtcanon.proofs.ShowLemmas.{HasShown}
use Rattle.fmtcanon.proofs.show_lines.show_lines.Given as goal

abbrev pub invariant-loop-piece : goal.invariant-loop-piece
invariant-loop-piece l = record {
  can : (goal.iterator-loop-piece).can_next l.piece-iterator;
  finite : (goal.iterator-loop-piece).is_finite l.piece-iterator;
  shown : HasShown l.model l.piece-iterator l.format l.out.items;
}
