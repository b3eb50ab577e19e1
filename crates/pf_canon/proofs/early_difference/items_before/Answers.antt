use Rattle.std.proofs.Common.{arith, subst}
use Rattle.std.proofs.lemmas.List.{length-take-le}
use Rattle.pf_text.specs.Walks.{AreRead, Either, IsMadeOf}
use Rattle.pf_text.proofs.CanonicalRunLemmas.{take_front}
use Rattle.pf_text.proofs.WalkLemmas.{made_of_none}
use Rattle.pf_canon.proofs.early_difference.items_before.Goals as goal

pub returns-then-len-eq0-clause-read : goal.returns-then-len-eq0-clause-read
returns-then-len-eq0-clause-read g c = made_of_none (Either AreRead g.L.Passed.passes)

pub returns-clause-within : goal.returns-clause-within
returns-clause-within g c =
    let end = c.read_end.ensures.within in
    (omega (arith, end.0, length-take-le c.args.len c.args.text.now c.requires), end.1)

pub returns-clause-read : goal.returns-clause-read
returns-clause-read g c =
    subst (IsMadeOf (Either AreRead g.L.Passed.passes)) (take_front c.read_end.result c.args.len c.args.text.now c.read_end.ensures.within.0)
    c.read_end.ensures.read
