use Rattle.pf_text.proofs.FoundLemmas.{spelled_there}
use Rattle.pf_text.proofs.specification.spelled_at.Goals as goal

pub returns : goal.returns
returns c =
    spelled_there c.args.text.now c.args.start c.padding_flag_at-at.result.1 c.number_at-width.result.1 c.in_ok-precision.at c.padding_flag_at-at.result.0
    c.number_at-width.result.0 c.in_ok-precision.precision c.ending_at.result c.if-not-has_percent.ensures c.padding_flag_at-at.ensures
    c.number_at-width.ensures.bytes c.number_at-width.ensures.some c.in_ok-precision.ensures.bytes c.ending_at.ensures
