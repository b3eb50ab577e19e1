use Rattle.std.proofs.lemmas.List.{take_rest}
use Rattle.pf_literals.proofs.WalkLemmas.{ran}
use Rattle.pf_literals.proofs.cursor.Cursor.verbatim_part.Goals as goal

pub returns-clause-next : goal.returns-clause-next
returns-clause-next c =
    let t = c.args.source.now in
    let at = c.args.self.now.at in
    let e = c.verbatim_len-len.ensures in
    rw (take_rest t at, c.in-Inside.is) (ran t at c.verbatim_len-len.result (rw (take_rest t at) at e.within) (rw (take_rest t at) at e.verbatim))
