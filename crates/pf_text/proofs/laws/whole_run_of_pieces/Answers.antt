use Rattle.std.proofs.Common.{◌++◌, [], Some, flat_map, sym, subst}
use Rattle.pf_text.specs.PieceHistory.{NextIs, HasGiven, items_of}
use Rattle.pf_text.proofs.WholeRunLemmas.{one_given, pieces_refused}
use Rattle.pf_text.proofs.laws.whole_run_of_pieces.Goals as goal

pub loop-piece-init : goal.loop-piece-init
loop-piece-init c =
    let given : HasGiven c.into_iter-piece-iterator.result c.args.text.now [] [] = subst (λ p. HasGiven p c.args.text.now [] [])
    (sym c.into_iter-piece-iterator.ensures.into_iter_gives) c.new-piece-items.ensures in
    record { can = tt; finite = tt; run = ([], rw c.new-given.ensures.items given) }

pub loop-piece-preserved : goal.loop-piece-preserved
loop-piece-preserved c =
    let t = c.args.text.now in
    let run = c.loop-piece.invariant.run in
    let items = flat_map items_of c.loop-piece.given.items in
    let gives = subst (λ r. NextIs (Some r) c.next.new.self t run.0 items) c.in-Ok.is (c.in-Some.ensures.steps.next t run.0 items run.1) in
    record {
      can = tt;
      finite = tt;
      run = (
        run.0 ++ gives.more,
        rw c.push.ensures.items (rw c.if-is_err.ensures.negation
            (one_given t run.0 c.loop-piece.piece-iterator c.loop-piece.given.items run.1 c.in-Ok.piece c.next.new.self gives)),
      );
    }

pub returns-in-Err : goal.returns-in-Err
returns-in-Err c =
    let t = c.args.text.now in
    let run = c.loop-piece.invariant.run in
    let items = flat_map items_of c.loop-piece.given.items in
    pieces_refused t run.0 c.loop-piece.piece-iterator c.loop-piece.given.items run.1 c.in-Err.refusal
    (subst (λ r. NextIs (Some r) c.next.new.self t run.0 items) c.in-Err.is (c.in-Some.ensures.steps.next t run.0 items run.1))

pub returns : goal.returns
returns c =
    let run = c.loop-piece.invariant.run in
    c.in-None.ensures.steps.next c.args.text.now run.0 (flat_map items_of c.loop-piece.given.items) run.1
