use Rattle.pf_whole.proofs.LanguageLemmas.{answer_of_whole}
use Rattle.fmtcanon.proofs.answer.whole_canonical_text.Goals as goal

pub returns : goal.returns
returns c = answer_of_whole c.args.model c.args.format.now (λ v. v.items) c.canonical_in.result c.canonical_in.ensures.answer
