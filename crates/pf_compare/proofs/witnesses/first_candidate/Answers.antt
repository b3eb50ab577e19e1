use Rattle.std.proofs.Common.{rules}
use Rattle.pf_compare.proofs.ProbeLemmas.{alike_itself}
use Rattle.pf_compare.proofs.witnesses.first_candidate.Goals as goal

pub returns-then-are_equal_spans : goal.returns-then-are_equal_spans
returns-then-are_equal_spans c = λ k other e. alike_itself c.args.model c.args.whole.now c.args.first.now c.args.second.now k other
    (c.are_equal_spans.ensures (rw c.if-are_equal_spans.true (search rules))) e
