use Rattle.pf_text.proofs.WalkLemmas.{percent_passed}
use Rattle.pf_text.proofs.passed.PercentsPassed.len.Goals as goal

pub returns-then-text-at-eq37-clause-passed : goal.returns-then-text-at-eq37-clause-passed
returns-then-text-at-eq37-clause-passed c some = percent_passed _ c.args.text.now c.args.at c.requires c.if-text-at-eq37.true tt
