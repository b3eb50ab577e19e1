use Rattle.pf_render.proofs.MatchingLemmas.{IsChecked}
use Rattle.pf_render.proofs.argument_lists.check_arguments.Given as goal

abbrev pub invariant-loop-piece : goal.invariant-loop-piece
invariant-loop-piece g l = record {
  can : (goal.iterator-loop-piece g).can_next l.piece-iterator;
  finite : (goal.iterator-loop-piece g).is_finite l.piece-iterator;
  so_far : IsChecked g.A.FormatArgument.type_of g.A.FormatArgument.argument_of l.model l.piece-iterator l.text l.args l.check;
}
