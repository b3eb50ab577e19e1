use Rattle.std.proofs.Common.{◌≤◌, arith, length, subst, sym}
use Rattle.std.proofs.lemmas.List.{length-take}
use Rattle.pf_values.specs.declared.limits.TheConstants.{MAX_TEXT_LEN}
use Rattle.pf_canon.proofs.LanguageLemmas.{some_accepted}
use Rattle.pf_canon.proofs.SettledLemmas.{made_goes_on}
use Rattle.pf_canon.proofs.languages.check_after.Goals as goal

pub check_from-requires-clause-within : goal.check_from-requires-clause-within
check_from-requires-clause-within g c =
    subst (λ t. c.from.result.at ≤ length t) (sym c.from.ensures.over.text_is)
    (omega (arith, c.from.ensures.at, c.requires.within.0, c.requires.within.1, length-take MAX_TEXT_LEN c.args.text.now))

pub check_from-requires-clause-front : goal.check_from-requires-clause-front
check_from-requires-clause-front g c =
    made_goes_on g.L.Language.has_front c.args.model g.L.Passed.passes (g.met.L.Language.has_passed c.args.model) (g.met.L.Language.has_none c.args.model)
    c.args.text.now c.from.result.at c.args.front c.from.ensures.at c.requires.read

pub returns : goal.returns
returns g c =
    let (out, front) = made_goes_on g.L.Language.has_front c.args.model g.L.Passed.passes (g.met.L.Language.has_passed c.args.model)
    (g.met.L.Language.has_none c.args.model) c.args.text.now c.from.result.at c.args.front c.from.ensures.at c.requires.read in
    some_accepted g.L.Language.has_front g.L.Language.refuses c.args.model c.args.text.now out c.check_from.result (c.check_from.ensures out front)
