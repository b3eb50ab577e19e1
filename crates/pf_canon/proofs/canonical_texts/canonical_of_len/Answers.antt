use Rattle.std.proofs.Common.{◌∙◌, arith, subst, sym}
use Rattle.std.proofs.lemmas.Result.{err_from_is_err_and}
use Rattle.pf_canon.specs.Languages.{HasCanonicalIn}
use Rattle.pf_canon.proofs.SinkLemmas.{no_bytes}
use Rattle.pf_canon.proofs.LanguageLemmas.{hindered}
use Rattle.pf_canon.proofs.canonical_texts.canonical_of_len.Goals as goal

pub returns-then-len-eq0 : goal.returns-then-len-eq0
returns-then-len-eq0 g c =
    let n = c.requires.len in
    let none = no_bytes n.0 (sym n.2 ∙ c.if-len-eq0.true) in
    subst (HasCanonicalIn g.L.Language.has_front c.args.front.now.model c.args.text.now) (none ∙ sym c.new.ensures.items) n.1

pub returns-in_err-with_capacity : goal.returns-in_err-with_capacity
returns-in_err-with_capacity g c =
    let p = err_from_is_err_and c.from_residual.result c.from_residual.ensures.1 in
    let n = c.requires.len in
    rw (p.1, p.2) (hindered g.L.Language.has_front g.L.Language.refuses c.args.front.now.model c.args.text.now n.0 n.1 (omega (arith, n.2, c.if-len-eq0.false)))
