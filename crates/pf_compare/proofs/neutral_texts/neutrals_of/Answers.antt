use Rattle.pf_values.specs.meaning.Items.{types}
use Rattle.pf_compare.specs.Witnesses.{AreNeutral}
use Rattle.pf_compare.proofs.WitnessLemmas.{added_alone}
use Rattle.pf_compare.proofs.neutral_texts.neutrals_of.Goals as goal

pub returns : goal.returns
returns g c = λ items reads. added_alone g.T.From.from_gives (AreNeutral (types c.args.model items)) c.in_ok-args.args.items c.push_neutrals.new.args.items
    c.in_ok-args.ensures.items (c.in_ok-push_neutrals.ensures.added items reads)
