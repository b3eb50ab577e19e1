use Rattle.std.proofs.Common.{flat_map}
use Rattle.pf_values.specs.meaning.Text.{Text}
use Rattle.pf_text.specs.PieceHistory.{HasGiven, items_of}
use Rattle.pf_text.proofs.laws.whole_run_of_pieces.Given as goal

abbrev pub invariant-loop-piece : goal.invariant-loop-piece
invariant-loop-piece l = record {
  can : goal.iterator-loop-piece.can_next l.piece-iterator;
  finite : goal.iterator-loop-piece.is_finite l.piece-iterator;
  run : ((read : Text) × HasGiven l.piece-iterator l.fn.text read (flat_map items_of l.given.items));
}
