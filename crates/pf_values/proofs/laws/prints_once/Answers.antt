use Rattle.pf_values.proofs.PrintsOnce.{prints_once}
use Rattle.pf_values.proofs.laws.prints_once.Goals as goal

pub returns : goal.returns
returns c = λ model. prints_once model
