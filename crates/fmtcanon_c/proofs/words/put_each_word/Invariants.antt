use Rattle.std.proofs.Common.{◌≡◌, ◌++◌, drop, length, take}
use Rattle.fmtcanon_c.specs.Words.{ended_words}
use Rattle.fmtcanon_c.proofs.words.put_each_word.Given as goal

-- the words so far, and the rest of the buffer as it was
abbrev pub invariant-loop-argument : goal.invariant-loop-argument
invariant-loop-argument l = (l.at ≡ length (ended_words (take l.argument-index l.shown)))
    × (l.out ≡ ended_words (take l.argument-index l.shown) ++ drop l.at l.fn.out)
