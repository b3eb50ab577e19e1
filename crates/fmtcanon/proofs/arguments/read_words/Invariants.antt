use Rattle.std.proofs.Common.{map, take}
use Rattle.fmtcanon.specs.FormatArguments.{SpellArguments}
use Rattle.fmtcanon.specs.UntypedArgs.{argument_given}
use Rattle.fmtcanon.proofs.arguments.read_words.Given as goal

-- the words so far gave these arguments
abbrev pub invariant-loop-word : goal.invariant-loop-word
invariant-loop-word l = SpellArguments (map (λ s. s.now) (take l.word-index l.words)) (map argument_given l.given.items)
