use Rattle.pf_canon.proofs.ChangeLemmas.{changed_known}
use Rattle.pf_canon.proofs.changed_directives.known_at.Goals as goal

pub returns-in-Some : goal.returns-in-Some
returns-in-Some c =
    let d = c.in-Some.directive in
    changed_known c.args.model c.args.text.now c.args.start d.found d.change c.is_kept.result c.in-Some.ensures.0 c.in-Some.ensures.1 c.is_kept.ensures
