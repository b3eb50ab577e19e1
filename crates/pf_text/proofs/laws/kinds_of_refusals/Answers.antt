use Rattle.pf_text.proofs.KindLemmas.{kind_of_refusal}
use Rattle.pf_text.proofs.laws.kinds_of_refusals.Goals as goal

pub returns : goal.returns
returns c = kind_of_refusal
