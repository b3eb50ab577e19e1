use Rattle.pf_compare.proofs.WitnessLemmas.{HasNeutrals}
use Rattle.pf_compare.proofs.neutral_texts.push_neutrals.Given as goal

abbrev pub invariant-loop-piece : goal.invariant-loop-piece
invariant-loop-piece g l = record {
  can : (goal.iterator-loop-piece g).can_next l.piece-iterator;
  finite : (goal.iterator-loop-piece g).is_finite l.piece-iterator;
  neutrals : HasNeutrals g.T.From.from_gives l.model l.piece-iterator l.text l.initial.args.items l.args.items;
}
