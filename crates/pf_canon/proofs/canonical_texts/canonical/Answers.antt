use Rattle.pf_canon.proofs.LanguageLemmas.{answer_of_profile}
use Rattle.pf_canon.proofs.canonical_texts.canonical.Goals as goal

pub returns : goal.returns
returns c = answer_of_profile c.args.model c.args.text.now (λ v. v.items) c.canonical_in.result c.canonical_in.ensures.answer
