use Rattle.std.proofs.Common.{◌++◌, subst, take}
use Rattle.pf_canon.specs.CanonicalSlices.{SlicesHaveGivenBy, pending_of}
use Rattle.pf_canon.proofs.SettledLemmas.{goes_on}
use Rattle.pf_canon.proofs.SliceLemmas.{ended_before, ended_now}
use Rattle.pf_canon.proofs.canonical_slices.CanonicalSlices.finish.Goals as goal

pub check_from-requires-clause-front : goal.check_from-requires-clause-front
check_from-requires-clause-front g c =
    let w = c.args.self.now in
    let (given, h) = c.requires in
    let settled = given ++ pending_of w in
    let m = subst (λ end. SlicesHaveGivenBy end g.L.Language.has_front g.L.Language.refuses w.model w.walk w.held w.text.now settled) c.in-None.is h.by in (
      settled,
      goes_on g.L.Language.has_front w.model g.L.Passed.passes (g.met.L.Language.has_passed w.model) (take w.walk.at w.text.now) settled w.held m.written,
    )

pub returns-in-Some : goal.returns-in-Some
returns-in-Some g c model text given h =
    ended_before g.L.Language.has_front g.L.Language.refuses model c.args.self.now text given c.in-Some.end c.in-Some.is h

pub returns-in-None : goal.returns-in-None
returns-in-None g c model text given h =
    let w = c.args.self.now in
    let settled = given ++ pending_of w in
    let m = subst (λ end. SlicesHaveGivenBy end g.L.Language.has_front g.L.Language.refuses model w.walk w.held text settled) c.in-None.is h.by in
    ended_now g.L.Language.has_front g.L.Language.refuses model w text given c.check_from.result c.in-None.is
    ((rw (h.model_is, h.text_is) at c.check_from.ensures) settled
    (goes_on g.L.Language.has_front model g.L.Passed.passes (g.met.L.Language.has_passed model) (take w.walk.at text) settled w.held m.written))
