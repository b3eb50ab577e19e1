use Rattle.pf_text.proofs.FoundLemmas.{flags_there, with_more}
use Rattle.pf_text.proofs.specification.directive_at_percent.Goals as goal

pub returns-in-None : goal.returns-in-None
returns-in-None c =
    let text = c.args.text.now in
    let flags = c.common_flag_at-at in
    with_more text c.args.start flags.result.1 c.directive_with_more.result
    (c.in-None.ensures c.args.start (flags_there text c.args.start flags.result.1 flags.result.0 flags.ensures.0 c.requires flags.ensures.1 flags.ensures.2))
    c.directive_with_more.ensures

pub returns-in-Some : goal.returns-in-Some
returns-in-Some c =
    let text = c.args.text.now in
    let flags = c.common_flag_at-at in
    c.in-Some.ensures c.args.start (flags_there text c.args.start flags.result.1 flags.result.0 flags.ensures.0 c.requires flags.ensures.1 flags.ensures.2)
