use Rattle.std.proofs.Common.{arith, ap, length}
use Rattle.pf_canon.proofs.OutputLemmas.{length-silents, silents_alone}
use Rattle.pf_canon.proofs.TransducerLemmas.{ended}
use Rattle.pf_canon.proofs.transducer.Transducer.finish.Goals as goal

pub returns-in-Ok-clause-ended : goal.returns-in-Ok-clause-ended
returns-in-Ok-clause-ended c model t out items h =
    ended model t out c.args.self.now.silents items (c.in-Ok.ensures.finished t items h.after) h.made _
    (silents_alone c.args.self.now.silents c.new.result.items c.spelled.ensures c.new.ensures)

pub returns-in-Ok-clause-few : goal.returns-in-Ok-clause-few
returns-in-Ok-clause-few c =
    omega (
      arith,
      ap length (silents_alone c.args.self.now.silents c.new.result.items c.spelled.ensures c.new.ensures),
      length-silents c.args.self.now.silents,
    )

pub returns-in-Err-clause-ended : goal.returns-in-Err-clause-ended
returns-in-Err-clause-ended c model t out items h = c.in-Err.ensures.finished t items h.after
