use Rattle.pf_bounds.proofs.SumLemmas.{all_summed, enough_room, more_summed, refused_next}
use Rattle.pf_bounds.proofs.formats.bounds_by_pieces.Goals as goal

pub plus-sum-requires-clause-few : goal.plus-sum-requires-clause-few
plus-sum-requires-clause-few c =
    enough_room c.args.model c.loop-piece.piece-iterator c.next.new.self c.args.text.now c.loop-piece.sum.least c.loop-piece.sum.greatest
    c.loop-piece.invariant.summed

pub loop-piece-preserved : goal.loop-piece-preserved
loop-piece-preserved c =
    record {
      can = tt;
      finite = tt;
      summed = more_summed c.args.model c.loop-piece.piece-iterator c.next.new.self c.args.text.now c.loop-piece.sum.least c.loop-piece.sum.greatest
          c.loop-piece.invariant.summed c.in-Some.piece c.in-Some.ensures.steps c.in-Ok.piece _ _ _ _ c.in-Ok.is c.piece_bounds.ensures.few
          c.piece_bounds.ensures.value c.plus-sum.ensures.least c.plus-sum.ensures.greatest;
    }

pub returns-in-Err : goal.returns-in-Err
returns-in-Err c =
    (refused_next c.args.model c.loop-piece.piece-iterator c.next.new.self c.args.text.now c.loop-piece.sum.least c.loop-piece.sum.greatest
    c.loop-piece.invariant.summed c.in-Some.piece c.in-Some.ensures.steps c.in-Err.refusal c.in-Err.is).refused

pub returns : goal.returns
returns c =
    all_summed c.args.model c.loop-piece.piece-iterator c.next.new.self c.args.text.now c.loop-piece.sum.least c.loop-piece.sum.greatest
    c.loop-piece.invariant.summed c.in-None.ensures.steps
