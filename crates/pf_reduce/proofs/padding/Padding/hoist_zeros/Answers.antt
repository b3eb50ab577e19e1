use Rattle.pf_reduce.proofs.Narrowing.{hoist_zeros}
use Rattle.pf_reduce.proofs.padding.Padding.hoist_zeros.Goals as goal

pub returns : goal.returns
returns c = rw c.saturating_sub.ensures (hoist_zeros c.args.self c.args.count c.requires.apart)
