use Rattle.pf_literals.proofs.FaultLemmas.{refused_longer}
use Rattle.pf_literals.proofs.laws.refused_for_good.Goals as goal

pub returns : goal.returns
returns c = refused_longer
