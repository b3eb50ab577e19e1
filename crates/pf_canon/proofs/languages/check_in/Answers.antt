use Rattle.std.proofs.Common.{[], take}
use Rattle.pf_canon.proofs.LanguageLemmas.{nothing_read, some_accepted}
use Rattle.pf_canon.proofs.SettledLemmas.{goes_on}
use Rattle.pf_canon.proofs.languages.check_in.Goals as goal

pub check_from-requires-clause-front : goal.check_from-requires-clause-front
check_from-requires-clause-front g c =
    let at = c.new.result.at in
    let start = nothing_read g.L.Language.has_front c.args.model (g.met.L.Language.has_none c.args.model) c.args.text.now at c.new.ensures.at in
    ([], goes_on g.L.Language.has_front c.args.model g.L.Passed.passes (g.met.L.Language.has_passed c.args.model) (take at c.args.text.now) [] 0 start)

pub returns : goal.returns
returns g c =
    let at = c.new.result.at in
    let start = nothing_read g.L.Language.has_front c.args.model (g.met.L.Language.has_none c.args.model) c.args.text.now at c.new.ensures.at in
    let front = goes_on g.L.Language.has_front c.args.model g.L.Passed.passes (g.met.L.Language.has_passed c.args.model) (take at c.args.text.now) [] 0 start in
    some_accepted g.L.Language.has_front g.L.Language.refuses c.args.model c.args.text.now [] c.check_from.result (c.check_from.ensures [] front)
