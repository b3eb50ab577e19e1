use Rattle.std.proofs.Common.{arith, subst}
use Rattle.pf_posix.specs.Halts.{IsRefusedIn}
use Rattle.pf_posix.specs.Plain.{numbering_after}
use Rattle.pf_posix.proofs.PlainFrontLemmas.{plain_refused}
use Rattle.pf_posix.proofs.argument_types.other_arguments.Goals as goal

pub returns-in-Err-clause-types : goal.returns-in-Err-clause-types
returns-in-Err-clause-types c =
    plain_refused c.args.model c.args.walk.text.now c.args.walk.at c.args.count c.in-Err.refused c.requires.front c.requires.walk.few
    (omega (arith, c.requires.percent.0))
    (subst (λ u. IsRefusedIn u c.args.walk.at (numbering_after c.args.count) c.in-Err.refused) c.text.ensures
    (subst (λ n. IsRefusedIn c.text.result.now c.args.walk.at n c.in-Err.refused) c.numbering_after.ensures c.in-Err.ensures))
