use Rattle.pf_bounds.proofs.SumLemmas.{HasSummed}
use Rattle.pf_bounds.proofs.formats.bounds_by_pieces.Given as goal

abbrev pub invariant-loop-piece : goal.invariant-loop-piece
invariant-loop-piece l = record {
  can : (goal.iterator-loop-piece).can_next l.piece-iterator;
  finite : (goal.iterator-loop-piece).is_finite l.piece-iterator;
  summed : HasSummed l.model l.piece-iterator l.text l.sum.least l.sum.greatest;
}
