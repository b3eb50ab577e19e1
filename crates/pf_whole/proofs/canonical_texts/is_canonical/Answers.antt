use Rattle.pf_whole.proofs.LanguageLemmas.{decided_of_whole}
use Rattle.pf_whole.proofs.canonical_texts.is_canonical.Goals as goal

pub returns : goal.returns
returns c = decided_of_whole c.args.model c.args.text.now c.is_canonical_in.result c.is_canonical_in.ensures
