use Rattle.std.proofs.Common.{◌≡◌, ◌++◌, ◌-◌, None, replicate, ap, ◌∙◌, arith}
use Rattle.pf_whole.proofs.CountLemmas.{none_more, none_yet}
use Rattle.pf_whole.proofs.verdicts.push_any.Goals as goal

pub loop-left-init : goal.loop-left-init
loop-left-init c = (none_yet c.args.shown.now.items c.args.count, omega arith)

pub loop-left-preserved : goal.loop-left-preserved
loop-left-preserved c =
    let i = c.loop-left.invariant in
    (none_more _ _ _ c.args.count c.loop-left.left i.0 c.in_ok-push.ensures.items i.1 (omega (arith, c.loop-left-test.true)), omega (arith, i.1))

pub returns : goal.returns
returns c =
    let none : c.args.count - c.loop-left.left ≡ c.args.count = omega (arith, c.loop-left-test.false) in
    c.loop-left.invariant.0 ∙ ap (λ n. c.args.shown.now.items ++ replicate n None) none
