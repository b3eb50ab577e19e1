use Rattle.pf_canon.proofs.ItemLemmas.{run_next}
use Rattle.pf_canon.proofs.items.run_end.Goals as goal

pub returns-clause-next : goal.returns-clause-next
returns-clause-next g c = run_next g.P.Passed.passes g.P.Passed.leaves (record c.args.walk { at = c.args.from }) c.find.new.self c.find.result c.find.ensures
