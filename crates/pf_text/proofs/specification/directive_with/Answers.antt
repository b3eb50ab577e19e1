use Rattle.pf_text.proofs.FoundLemmas.{found_or_none}
use Rattle.pf_text.proofs.specification.directive_with.Goals as goal

pub returns : goal.returns
returns c start parts =
    let width = c.number_at-width in
    let precision = c.precision_at-precision in
    found_or_none c.args.text.now start c.args.at width.result.1 precision.result.1 c.args.flags width.result.0 precision.result.0 precision.ensures.bytes.0
    parts width.ensures.bytes width.ensures.some width.ensures.small precision.ensures.bytes.2 precision.ensures.bytes.1 precision.ensures.small
    c.ending_at.result width.ensures.ended precision.ensures.ended c.ending_at.ensures
