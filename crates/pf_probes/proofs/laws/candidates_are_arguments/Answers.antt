use Rattle.pf_probes.proofs.Telling.{candidate_typed}
use Rattle.pf_probes.proofs.laws.candidates_are_arguments.Goals as goal

pub returns : goal.returns
returns c = λ model. candidate_typed model
