use Rattle.pf_compare.proofs.ConfirmationLemmas.{confirmed}
use Rattle.pf_compare.proofs.comparisons.confirms.Goals as goal

pub returns-clause-told : goal.returns-clause-told
returns-clause-told c = confirmed c.args.model c.args.first.now c.args.second.now c.args.args.now c.in_ok-first_bytes.first_bytes
    c.in_ok-second_bytes.second_bytes c.in_ok-first_bytes.ensures.told c.in_ok-second_bytes.ensures.told c.differ.result c.differ.ensures
