use Rattle.pf_posix.proofs.Unique.{numbered_kind, unnumbered_kind}
use Rattle.pf_posix.proofs.laws.kinds_of_refusals.Goals as goal

pub returns-clause-numbered : goal.returns-clause-numbered
returns-clause-numbered c = numbered_kind

pub returns-clause-unnumbered : goal.returns-clause-unnumbered
returns-clause-unnumbered c = unnumbered_kind
