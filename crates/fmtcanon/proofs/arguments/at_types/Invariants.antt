use Rattle.std.proofs.Common.{length}
use Rattle.fmtcanon.proofs.FormatArgumentLemmas.{AreTyped}
use Rattle.fmtcanon.proofs.arguments.at_types.Given as goal

-- the arguments so far are there, each of its type
abbrev pub invariant-loop-argument : goal.invariant-loop-argument
invariant-loop-argument l = AreTyped l.model l.given l.wanted l.args.items (length l.yielded)
