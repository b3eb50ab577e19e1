use Rattle.std.proofs.Common.{refl}
use Rattle.pf_canon.proofs.canonical_texts.canonical_len_in.Goals as goal

pub returns-then-is_all : goal.returns-then-is_all
returns-then-is_all g c =
    let text = c.args.text.now in
    let own = rw c.of-front.ensures.model at c.is_all.ensures c.if-is_all.true in
    (text, own, refl)

pub returns : goal.returns
returns g c = rw c.of-front.ensures.model at c.len_behind.ensures
