use Rattle.pf_literals.proofs.EncodingReadLemmas.{encoding_read}
use Rattle.pf_literals.proofs.laws.encoded_is_read.Goals as goal

pub returns : goal.returns
returns c = encoding_read
