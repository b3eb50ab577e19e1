use Rattle.fmtcanon.proofs.ReductionLemmas.{one_reduction}
use Rattle.fmtcanon.proofs.laws.one_reduction.Goals as goal

pub returns : goal.returns
returns c = one_reduction
