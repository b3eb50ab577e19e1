use Rattle.pf_compare.proofs.ProbeLemmas.{filled_again, told_still}
use Rattle.pf_compare.proofs.witnesses.is_unchanged.Goals as goal

pub returns : goal.returns
returns c = λ still. filled_again c.args.whole.now c.args.printed.now c.args.span.now c.requires (told_still _ _ c.are_unlike.result still c.are_unlike.ensures)
