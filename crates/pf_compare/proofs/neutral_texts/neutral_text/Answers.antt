use Rattle.std.proofs.Common.{[], refl, subst, sym}
use Rattle.pf_text.specs.declared.pieces.Pieces.{Pieces}
use Rattle.pf_compare.proofs.SpanLemmas.{HasPrinted, printed_next, printed_refused, printed_whole}
use Rattle.pf_compare.proofs.neutral_texts.neutral_text.Goals as goal

pub loop-piece-init : goal.loop-piece-init
loop-piece-init c = record {
  can = tt;
  finite = tt;
  printed = subst (λ (pieces : Pieces). HasPrinted c.args.model pieces c.args.text.now c.in_ok-bytes.bytes.items)
      (sym c.into_iter-piece-iterator.ensures.into_iter_gives)
      (subst (HasPrinted c.args.model c.new-piece-items.result c.args.text.now) (sym c.in_ok-bytes.ensures.items)
      (record { read = []; items = []; given = c.new-piece-items.ensures; prints = refl }));
}

pub loop-piece-preserved : goal.loop-piece-preserved
loop-piece-preserved c =
    let more = c.in_ok-bytes-in-Ok.ensures in
    record {
      can = tt;
      finite = tt;
      printed = printed_next c.args.model c.loop-piece.piece-iterator c.next.new.self c.args.text.now _ c.loop-piece.invariant.printed c.in-Some.piece
          c.in-Some.ensures.steps c.in-Ok.piece more.0 _ c.in-Ok.is more.1 more.2;
    }

pub unreachable-requires : goal.unreachable-requires
unreachable-requires c = (printed_refused c.args.model c.loop-piece.piece-iterator c.next.new.self c.args.text.now _ c.loop-piece.invariant.printed
    c.in-Some.piece c.in-Some.ensures.steps c.in-Err.field-0 c.in-Err.is).not_accepted c.requires

pub returns : goal.returns
returns c = printed_whole c.args.model c.loop-piece.piece-iterator c.next.new.self c.args.text.now _ c.loop-piece.invariant.printed c.in-None.ensures.steps
