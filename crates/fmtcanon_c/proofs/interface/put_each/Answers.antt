use Rattle.std.proofs.Common.{◌<◌, ◌∙◌, ap, length, arith}
use Rattle.fmtcanon_c.proofs.interface.put_each.Goals as goal
use Rattle.fmtcanon_c.proofs.CodeLemmas.{put_one_more}

pub loop-at-preserved : goal.loop-at-preserved
loop-at-preserved g c =
    let low : c.loop-at.at < length c.args.values.now = c.loop-at-test.true in
    let code_of = g.V.Coded.code_of in
    let value = c.index-values-at in (
      omega arith,
      put_one_more code_of c.args.values.now c.args.out.now c.loop-at.out c.loop-at.at c.code.result value.result low c.requires
          c.loop-at.invariant.1 (c.code.ensures ∙ ap code_of value.is),
    )
