use Rattle.fmtcanon.proofs.PrintedWordLemmas.{word_is_read}
use Rattle.fmtcanon.proofs.laws.printed_word_is_read.Goals as goal

pub returns : goal.returns
returns c = word_is_read
