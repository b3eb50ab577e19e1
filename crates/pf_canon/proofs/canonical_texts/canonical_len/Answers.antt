use Rattle.pf_canon.proofs.LanguageLemmas.{len_of_profile}
use Rattle.pf_canon.proofs.canonical_texts.canonical_len.Goals as goal

pub returns : goal.returns
returns c = len_of_profile c.args.model c.args.text.now c.canonical_len_in.result c.canonical_len_in.ensures
