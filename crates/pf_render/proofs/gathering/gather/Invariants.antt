use Rattle.pf_render.proofs.GatheringLemmas.{IsGathering}
use Rattle.pf_render.proofs.gathering.gather.Given as goal

-- the pieces so far were gathered
abbrev pub invariant-loop-piece : goal.invariant-loop-piece
invariant-loop-piece g l = record {
  can : (goal.iterator-loop-piece g).can_next l.piece-iterator;
  finite : (goal.iterator-loop-piece g).is_finite l.piece-iterator;
  so_far : IsGathering g.A.FormatArgument.type_of g.A.FormatArgument.argument_of g.O.Output.wrote l.model l.fn.writer l.text l.args l.writer l.piece-iterator l.taken;
}
