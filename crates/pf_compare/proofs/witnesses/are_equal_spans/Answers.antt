use Rattle.std.proofs.Common.{rules}
use Rattle.pf_compare.proofs.ProbeLemmas.{one_span}
use Rattle.pf_compare.proofs.witnesses.are_equal_spans.Goals as goal

pub returns-then-have_same_offsets : goal.returns-then-have_same_offsets
returns-then-have_same_offsets c = λ same.
    let offsets = c.have_same_offsets.ensures (rw c.if-have_same_offsets.true (search rules)) in
    one_span c.args.first.now c.args.second.now (c.are_equal.ensures.yes same) offsets.0 offsets.1
