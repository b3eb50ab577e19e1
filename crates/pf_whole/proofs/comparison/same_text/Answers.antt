use Rattle.pf_whole.proofs.LanguageLemmas.{compared_of_whole}
use Rattle.pf_whole.proofs.comparison.same_text.Goals as goal

pub returns : goal.returns
returns c = compared_of_whole c.args.model c.args.first.now c.args.second.now c.same_text_in.result c.same_text_in.ensures
