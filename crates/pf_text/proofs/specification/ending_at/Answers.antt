use Rattle.pf_text.proofs.NoDirectiveLemmas.{no_conv_there, undefined_there}
use Rattle.pf_text.proofs.specification.ending_at.Goals as goal

pub returns-in_err-conv : goal.returns-in_err-conv
returns-in_err-conv c =
    rw c.from_residual.ensures (λ start parts ends.
    no_conv_there c.args.text.now start c.args.at c.modifier_at-length.result.1 c.args.flags c.args.width c.args.precision parts c.modifier_at-length.result.0
    c.modifier_at-length.ensures.letters ends c.modifier_at-length.ensures.ended c.in_err-conv.ensures)

pub returns-then-not-is_defined : goal.returns-then-not-is_defined
returns-then-not-is_defined c start parts ends =
    undefined_there c.args.text.now start c.args.at c.modifier_at-length.result.1 c.args.flags c.args.width c.args.precision parts c.modifier_at-length.result.0
    c.modifier_at-length.ensures.letters c.in_ok-conv.conv c.in_ok-conv.ensures c.if-not-is_defined.ensures
