use Rattle.pf_text.proofs.FoundLemmas.{flags_there, with_all}
use Rattle.pf_text.proofs.specification.any_directive_at.Goals as goal

pub returns : goal.returns
returns c =
    let text = c.args.text.now in
    let flags = c.flags_at-at in
    with_all text c.args.start flags.result.1 c.directive_with.result flags.ensures.ended
    (c.directive_with.ensures c.args.start (flags_there text c.args.start flags.result.1 flags.result.0 flags.ensures.flags.0 c.requires
    flags.ensures.flags.1 flags.ensures.flags.2))
