use Rattle.pf_whole.proofs.TracesSuffice.{alike_share_errno}
use Rattle.pf_whole.proofs.laws.alike_share_errno.Goals as goal

pub returns : goal.returns
returns c = alike_share_errno
