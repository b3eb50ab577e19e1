use Rattle.std.proofs.Common.{subst, sym}
use Rattle.pf_values.specs.meaning.Items.{types}
use Rattle.pf_text.specs.PieceHistory.{items_of}
use Rattle.pf_compare.specs.Witnesses.{AddsConverted, AreNeutral}
use Rattle.pf_compare.proofs.WitnessLemmas.{added_none, added_one}
use Rattle.pf_compare.proofs.neutral_texts.push_neutral.Goals as goal

pub returns-in_ok-push-in-Some-clause-added : goal.returns-in_ok-push-in-Some-clause-added
returns-in_ok-push-in-Some-clause-added g c =
    let gives = g.T.From.from_gives in
    subst (AddsConverted gives (AreNeutral (types c.args.model (items_of c.args.piece.now))) c.args.args.now.items) (sym c.in_ok-push-in-Some.ensures.items)
    (added_one gives c.args.model (items_of c.args.piece.now) c.in-Some.arg_type c.args.args.now.items c.neutral.result c.from.result
    (sym c.in-Some.ensures) c.neutral.ensures.value c.neutral.ensures.arg_type c.from.ensures)

pub returns-in-None-clause-added : goal.returns-in-None-clause-added
returns-in-None-clause-added g c = added_none g.T.From.from_gives c.args.model (items_of c.args.piece.now) c.args.args.now.items (sym c.in-None.ensures)
