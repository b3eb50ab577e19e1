use Rattle.pf_canon.proofs.LanguageLemmas.{decided_of_profile}
use Rattle.pf_canon.proofs.canonical_texts.is_canonical.Goals as goal

pub returns-clause-ok : goal.returns-clause-ok
returns-clause-ok c = (decided_of_profile c.args.model c.args.text.now c.is_canonical_in.result c.is_canonical_in.ensures).0

pub returns-clause-err : goal.returns-clause-err
returns-clause-err c = (decided_of_profile c.args.model c.args.text.now c.is_canonical_in.result c.is_canonical_in.ensures).1
