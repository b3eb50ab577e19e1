use Rattle.pf_text.proofs.ReadBack.{spelled_read}
use Rattle.pf_text.proofs.laws.spelled_is_read.Goals as goal

pub returns : goal.returns
returns c = spelled_read
