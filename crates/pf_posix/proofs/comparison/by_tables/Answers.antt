use Rattle.pf_posix.proofs.DifferenceLemmas.{compared}
use Rattle.pf_posix.proofs.comparison.by_tables.Goals as goal

pub returns-in-Ok-arguments : goal.returns-in-Ok-arguments
returns-in-Ok-arguments c =
    compared c.args.model c.args.first.now c.args.second.now _ _ _ _ _ _ _ c.in-Ok.ensures.types c.in-Ok-arguments.ensures.types c.difference.ensures
    c.in-Ok.ensures.length c.requires
