use Rattle.std.proofs.Common.{◌≡◌, length, take}
use Rattle.fmtcanon_c.specs.Words.{ended_words}
use Rattle.fmtcanon_c.proofs.words.words_len.Given as goal

-- the words so far
abbrev pub invariant-loop-argument : goal.invariant-loop-argument
invariant-loop-argument l = l.len ≡ length (ended_words (take l.argument-index l.shown))
