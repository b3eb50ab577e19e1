use Rattle.std.proofs.Common.{subst, sym}
use Rattle.std.proofs.lemmas.Result.{err_from_is_err_and}
use Rattle.pf_canon.specs.Languages.{HasCanonicalIn}
use Rattle.pf_canon.proofs.canonical_texts.build.Goals as goal

pub returns-in_err-copy_with_room : goal.returns-in_err-copy_with_room
returns-in_err-copy_with_room g c =
    let text = c.args.text.now in
    let own = rw c.of-front.ensures.model at c.is_all.ensures c.if-is_all.true in
    let p = err_from_is_err_and c.from_residual.result c.from_residual.ensures.1 in
    rw (p.1, p.2) (text, own, c.in_err-copy_with_room.ensures.some)

pub returns-then-is_all : goal.returns-then-is_all
returns-then-is_all g c =
    let text = c.args.text.now in
    let own = rw c.of-front.ensures.model at c.is_all.ensures c.if-is_all.true in
    subst (HasCanonicalIn g.L.Language.has_front c.args.model text) (sym c.in_ok-copy_with_room.ensures.items) own

pub returns-in-Ok-Counted : goal.returns-in-Ok-Counted
returns-in-Ok-Counted g c = rw c.of-front.ensures.model at c.canonical_of_len.ensures
