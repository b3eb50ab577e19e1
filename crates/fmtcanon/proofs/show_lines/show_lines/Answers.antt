use Rattle.fmtcanon.proofs.ShowLemmas.{all_shown, more_shown, none_shown, pushed, refused}
use Rattle.fmtcanon.proofs.show_lines.show_lines.Goals as goal

pub loop-piece-init : goal.loop-piece-init
loop-piece-init c =
    record {
      can = tt;
      finite = tt;
      shown = none_shown c.args.model _ _ c.args.format.now _ c.into_iter-piece-iterator.ensures.into_iter_gives
          c.new-out.ensures.items c.new-piece-items.ensures;
    }

pub returns-in-Err : goal.returns-in-Err
returns-in-Err c = (refused c.args.model c.loop-piece.piece-iterator c.next.new.self c.args.format.now c.loop-piece.out.items c.loop-piece.invariant.shown
    c.in-Some.piece c.in-Some.ensures.steps c.in-Err.refusal c.in-Err.is).refused

pub loop-piece-preserved : goal.loop-piece-preserved
loop-piece-preserved c =
    let more = more_shown c.args.model c.loop-piece.piece-iterator c.next.new.self c.args.format.now c.loop-piece.out.items c.loop-piece.invariant.shown
    c.in-Some.piece c.in-Some.ensures.steps c.in-Ok.piece in
    record {
      can = tt;
      finite = tt;
      shown = pushed c.args.model c.next.new.self c.args.format.now c.loop-piece.out.items c.push_piece.new.out.items c.in-Ok.piece c.push_piece.result
          c.if-is_err.ensures.value c.push_piece.ensures (λ part is. more part c.in-Ok.is is);
    }

pub returns : goal.returns
returns c = all_shown c.args.model c.loop-piece.piece-iterator c.next.new.self c.args.format.now c.loop-piece.out.items c.loop-piece.invariant.shown
    c.in-None.ensures.steps
