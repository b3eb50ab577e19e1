use Rattle.pf_compare.proofs.ProbeLemmas.{told}
use Rattle.pf_compare.proofs.witnesses.replaced_differ.Goals as goal

pub returns : goal.returns
returns c =
    told c.args.whole.now c.min-from.result c.max-to.result c.args.first.now c.args.second.now
    c.requires.first c.requires.second c.min-from.ensures c.max-to.ensures c.args.first_bytes.now c.args.second_bytes.now c.in_ok-first_part.first_part.items
    c.in_ok-second_part.second_part.items
    c.in_ok-first_part.ensures c.in_ok-second_part.ensures
    c.are_unlike.result (rw c.deref-2.ensures.value at (rw c.deref.ensures.value at c.are_unlike.ensures))
