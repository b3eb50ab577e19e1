use Rattle.pf_canon.proofs.LanguageLemmas.{answer_of_profile}
use Rattle.fmtcanon.proofs.answer.canonical_text.Goals as goal

pub returns : goal.returns
returns c = answer_of_profile c.args.model c.args.format.now (λ v. v.items) c.canonical_in.result c.canonical_in.ensures.answer
