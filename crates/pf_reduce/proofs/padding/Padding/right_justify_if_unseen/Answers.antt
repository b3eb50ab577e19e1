use Rattle.pf_reduce.proofs.Narrowing.{made_right}
use Rattle.pf_reduce.proofs.padding.Padding.right_justify_if_unseen.Goals as goal

pub returns : goal.returns
returns c = made_right c.args.self c.args.unseen c.if-self-unseen.false
