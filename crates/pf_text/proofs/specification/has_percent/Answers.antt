use Rattle.std.proofs.Common.{arith}
use Rattle.pf_text.proofs.FoundLemmas.{none_at_end}
use Rattle.pf_text.proofs.specification.has_percent.Goals as goal

pub returns-then-at-text-2 : goal.returns-then-at-text-2
returns-then-at-text-2 c = none_at_end c.args.text.now c.args.at (omega (arith, c.if-at-text-2.true))
