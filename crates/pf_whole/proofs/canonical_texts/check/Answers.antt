use Rattle.pf_whole.proofs.LanguageLemmas.{checked_of_whole}
use Rattle.pf_whole.proofs.canonical_texts.check.Goals as goal

pub returns : goal.returns
returns c = checked_of_whole c.args.model c.args.text.now c.check_in.result c.check_in.ensures
