use Rattle.std.proofs.Common.{arith, inl, refl}
use Rattle.std.proofs.lemmas.Int.{ints}
use Rattle.fmtcanon_c.proofs.canonical_texts.put_canonical.Goals as goal

pub returns-then-is_all : goal.returns-then-is_all
returns-then-is_all g c =
    let text = c.args.text.now in
    let is = rw (c.of-front.ensures.model) at (c.is_all.ensures c.if-is_all.true) in
    inl (text, is, omega (arith, ints), c.put_string.ensures, refl)
