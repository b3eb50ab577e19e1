use Rattle.pf_compare.proofs.SpanLemmas.{HasPrinted}
use Rattle.pf_compare.proofs.neutral_texts.neutral_text.Given as goal

abbrev pub invariant-loop-piece : goal.invariant-loop-piece
invariant-loop-piece l = record {
  can : (goal.iterator-loop-piece).can_next l.piece-iterator;
  finite : (goal.iterator-loop-piece).is_finite l.piece-iterator;
  printed : HasPrinted l.model l.piece-iterator l.text l.bytes.items;
}
