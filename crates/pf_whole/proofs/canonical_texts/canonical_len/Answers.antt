use Rattle.pf_whole.proofs.LanguageLemmas.{len_of_whole}
use Rattle.pf_whole.proofs.canonical_texts.canonical_len.Goals as goal

pub returns : goal.returns
returns c = len_of_whole c.args.model c.args.text.now c.canonical_len_in.result c.canonical_len_in.ensures
