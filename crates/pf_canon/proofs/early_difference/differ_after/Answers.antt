use Rattle.std.proofs.Common.{refl}
use Rattle.std.proofs.lemmas.List.{take_rest}
use Rattle.pf_canon.proofs.ApartLemmas.{apart_after}
use Rattle.pf_canon.proofs.LanguageLemmas.{same_in}
use Rattle.pf_canon.proofs.early_difference.differ_after.Goals as goal

pub returns-then-not-begin_apart : goal.returns-then-not-begin_apart
returns-then-not-begin_apart g c = λ is.
    same_in g.L.Language.has_front c.args.model (g.met.L.Language.has_none c.args.model) c.args.first.now c.args.second.now _ (c.take_other_types.ensures is)

pub returns : goal.returns
returns g c = λ is.
    let apart = rw (take_rest, take_rest) at (c.if-not-begin_apart.ensures refl) in
    let one = rw take_rest at (c.if-not-is_rest.ensures refl) in
    let other = rw take_rest at (c.is_rest-2.ensures is) in
    apart_after g.L.Language.has_front c.args.model g.L.Passed.passes (g.met.L.Language.has_passed c.args.model) (g.met.L.Language.has_none c.args.model)
    c.args.first.now c.args.second.now c.args.common c.requires.common apart (c.if-not-is_short.ensures refl)
    (c.if-not-is_short-2.ensures refl) c.requires.read one other
