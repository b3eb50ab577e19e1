use Rattle.std.proofs.Common.{arith, decimal, Some}
use Rattle.pf_text.proofs.SpellingLemmas.{length-appended, length-width_spelled}
use Rattle.pf_text.proofs.spelling.push_width.Goals as goal

pub push_number-requires : goal.push_number-requires
push_number-requires c = omega (arith, length-width_spelled (Some c.in-Some.width) (rw c.in-Some.is at c.requires.small))

pub returns-in-Some-clause-len : goal.returns-in-Some-clause-len
returns-in-Some-clause-len c = omega (
  arith,
  length-width_spelled (Some c.in-Some.width) (rw c.in-Some.is at c.requires.small),
  length-appended c.args.out.now.items c.push_number.new.out.items (decimal c.in-Some.width) c.push_number.ensures,
)
