use Rattle.std.proofs.Common.{sym, ◌∙◌}
use Rattle.pf_literals.proofs.Numbers.{stops_full}
use Rattle.pf_literals.proofs.tokens.numeric_token.Goals as goal

pub returns-then-is_full : goal.returns-then-is_full
returns-then-is_full c =
    let i = c.loop-count.invariant in
    c.finished_numeric.ensures ∙ sym (stops_full c.args.notation c.args.text.now c.loop-count.count c.loop-count.number i.rest
    (sym c.is_full.ensures ∙ c.if-is_full.true))
