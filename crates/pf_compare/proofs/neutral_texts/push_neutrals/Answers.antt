use Rattle.std.proofs.Common.{[], refl, subst, sym}
use Rattle.pf_text.specs.declared.pieces.Pieces.{Pieces}
use Rattle.pf_compare.proofs.WitnessLemmas.{HasNeutrals, added_none, all_neutrals, neutrals_more, neutrals_refused}
use Rattle.pf_compare.proofs.neutral_texts.push_neutrals.Goals as goal

pub loop-piece-init : goal.loop-piece-init
loop-piece-init g c =
    let gives = g.T.From.from_gives in
    record {
      can = tt;
      finite = tt;
      neutrals = subst (λ (pieces : Pieces). HasNeutrals gives c.args.model pieces c.args.text.now c.args.args.now.items c.args.args.now.items)
          (sym c.into_iter-piece-iterator.ensures.into_iter_gives)
          (record { read = []; items = []; given = c.new-piece-items.ensures; added = added_none gives c.args.model [] c.args.args.now.items refl });
    }

pub loop-piece-preserved : goal.loop-piece-preserved
loop-piece-preserved g c = record {
  can = tt;
  finite = tt;
  neutrals = neutrals_more g.T.From.from_gives c.args.model c.loop-piece.piece-iterator c.next.new.self c.args.text.now _ _ c.loop-piece.invariant.neutrals
      c.in-Some.piece c.in-Some.ensures.steps c.in-Ok.piece _ c.in-Ok.is c.in_ok-push_neutral-in-Ok.ensures.added;
}

pub unreachable-requires : goal.unreachable-requires
unreachable-requires g c = (neutrals_refused g.T.From.from_gives c.args.model c.loop-piece.piece-iterator c.next.new.self c.args.text.now _ _
    c.loop-piece.invariant.neutrals c.in-Some.piece c.in-Some.ensures.steps c.in-Err.field-0 c.in-Err.is).not_accepted c.requires

pub returns-clause-added : goal.returns-clause-added
returns-clause-added g c = all_neutrals g.T.From.from_gives c.args.model c.loop-piece.piece-iterator c.next.new.self c.args.text.now _ _ c.loop-piece.invariant.neutrals
    c.in-None.ensures.steps
