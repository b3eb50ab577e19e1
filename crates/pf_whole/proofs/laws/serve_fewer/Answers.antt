use Rattle.pf_whole.proofs.FewerLemmas.{serve_fewer}
use Rattle.pf_whole.proofs.laws.serve_fewer.Goals as goal

pub returns : goal.returns
returns c = serve_fewer
