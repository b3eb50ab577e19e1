use Rattle.pf_whole.proofs.NeedlessLemmas.{some_alone}
use Rattle.fmtcanon_c.proofs.specifications.record_of.Goals as goal

pub needless_parts-found-requires : goal.needless_parts-found-requires
needless_parts-found-requires c = some_alone c.requires.0 c.args.span.now c.requires.1
