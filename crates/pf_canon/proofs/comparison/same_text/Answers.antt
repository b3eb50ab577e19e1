use Rattle.pf_canon.proofs.LanguageLemmas.{compared_of_profile}
use Rattle.pf_canon.proofs.comparison.same_text.Goals as goal

pub returns : goal.returns
returns c = compared_of_profile c.args.model c.args.first.now c.args.second.now c.same_text_in.result c.same_text_in.ensures
