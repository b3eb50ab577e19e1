use Rattle.pf_canon.proofs.EarlyLemmas.{front_made}
use Rattle.pf_canon.proofs.early_difference.read_end.Goals as goal

pub returns-clause-within : goal.returns-clause-within
returns-clause-within g c =
    let front = front_made g.L.Passed.passes c.args.text.now c.new.result c.items_end_from.result c.new.ensures.over c.new.ensures.at
    c.items_end_from.ensures in (front.1, front.2)

pub returns-clause-read : goal.returns-clause-read
returns-clause-read g c =
    (front_made g.L.Passed.passes c.args.text.now c.new.result c.items_end_from.result c.new.ensures.over c.new.ensures.at c.items_end_from.ensures).0
