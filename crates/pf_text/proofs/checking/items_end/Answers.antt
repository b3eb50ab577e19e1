use Rattle.pf_text.proofs.ReadingLemmas.{items_to}
use Rattle.pf_text.proofs.checking.items_end.Goals as goal

pub returns : goal.returns
returns c = items_to c.args.text.now c.new.result c.new.ensures.over c.new.ensures.at c.items_end_from.result c.items_end_from.ensures
