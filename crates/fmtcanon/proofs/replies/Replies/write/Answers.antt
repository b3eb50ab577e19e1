use Rattle.std.proofs.Common.{rules, subst}
use Rattle.pf_values.specs.Counting.{WritesAll, WritesFirst}
use Rattle.fmtcanon.proofs.ReplyLemmas.{said_all, said_first}
use Rattle.fmtcanon.proofs.replies.Replies.write.Goals as goal

pub returns-in-Ok-clause-said : goal.returns-in-Ok-clause-said
returns-in-Ok-clause-said g c =
    let k = g.W.Write.contents in
    let writes = subst (WritesAll k c.args.writer.now c.write_bytes.new.writer) c.deref.ensures.value c.in-Ok.ensures in
    λ start replies h. said_all k start _ _ c.args.self.now replies h _ writes (search rules) (search rules) (search rules)

pub returns-in-Err-clause-said : goal.returns-in-Err-clause-said
returns-in-Err-clause-said g c =
    let k = g.W.Write.contents in
    let writes = subst (λ t. WritesFirst k c.args.writer.now c.write_bytes.new.writer t c.in-Err.short.written) c.deref.ensures.value c.in-Err.ensures.0 in
    λ start replies h. said_first k start _ _ c.args.self.now replies h c.in-Err.short.written _ writes (search rules)
