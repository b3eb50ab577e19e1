use Rattle.std.proofs.Common.{sym, ◌∙◌}
use Rattle.pf_text.proofs.SpecificationLemmas.{flags_more}
use Rattle.pf_text.proofs.specification.flags_at.Goals as goal

pub loop-at-preserved : goal.loop-at-preserved
loop-at-preserved c =
    rw c.with-flags.ensures (flags_more c.args.text.now c.args.start c.loop-at.at c.loop-at.flags c.in-Some.flag
    (sym c.flag_of.ensures ∙ c.in-Some.is) c.loop-at-test.true c.loop-at.invariant)
