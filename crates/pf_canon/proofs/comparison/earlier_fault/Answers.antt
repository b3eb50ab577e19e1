use Rattle.pf_canon.specs.CanonicalBytes.{pending_in}
use Rattle.pf_canon.proofs.ComparisonLemmas.{both_stop, second_stops}
use Rattle.pf_canon.proofs.comparison.earlier_fault.Goals as goal

pub returns-in-Ok-clause-stopped : goal.returns-in-Ok-clause-stopped
returns-in-Ok-clause-stopped g c model second f h b t u given one filled two = second_stops model f _ h b
    (pending_in c.args.first.now) c.args.fault second u given (c.in-Ok.ensures.drained model f t given one filled) two

pub returns-in-Err-clause-stopped : goal.returns-in-Err-clause-stopped
returns-in-Err-clause-stopped g c model second f h b t u given one filled two = both_stop model f _ h b
    (pending_in c.args.first.now) c.args.fault c.in-Err.fault second u given (c.in-Err.ensures.drained model f t given one filled) two
