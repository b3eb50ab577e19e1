use Rattle.std.proofs.Common.{◌<◌, ◌∙◌, ap, arith, not}
use Rattle.pf_posix.specs.declared.numbered.TheConstants.{ROOM}
use Rattle.pf_posix.proofs.TableLemmas.{one_more, none_there}
use Rattle.pf_posix.proofs.numbered.Table.finish.Goals as goal

pub returns-then-is_none : goal.returns-then-is_none
returns-then-is_none c seen h =
    let index = c.loop-index.index in
    let room : index < ROOM = omega (arith, c.loop-index-test.true, c.requires.room) in
    (c.refusal.ensures, none_there c.args.self.now seen h index room (omega (arith, c.loop-index-test.true)) (c.is_none.ensures ∙ ap not c.if-is_none.true))

pub loop-index-preserved : goal.loop-index-preserved
loop-index-preserved c seen h =
    let index = c.loop-index.index in
    let room : index < ROOM = omega (arith, c.loop-index-test.true, c.requires.room) in
    one_more c.args.self.now seen h index room (c.loop-index.invariant seen h) (c.is_none.ensures ∙ ap not c.if-is_none.false)
