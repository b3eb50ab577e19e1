use Rattle.pf_literals.proofs.EncodingReadLemmas.{encoding_once}
use Rattle.pf_literals.proofs.laws.encoded_once.Goals as goal

pub returns : goal.returns
returns c = encoding_once
