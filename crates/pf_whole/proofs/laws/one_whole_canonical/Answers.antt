use Rattle.pf_whole.proofs.SomeCanonical.{one_whole_canonical}
use Rattle.pf_whole.proofs.laws.one_whole_canonical.Goals as goal

pub returns : goal.returns
returns c = one_whole_canonical
