use Rattle.pf_compare.proofs.WitnessLemmas.{converted_set}
use Rattle.pf_compare.proofs.witnesses.with_candidate.Goals as goal

pub returns : goal.returns
returns g c = λ ts h. converted_set g.T.From.from_gives ts c.args.probe c.args.args.items c.from.result h c.from.ensures
