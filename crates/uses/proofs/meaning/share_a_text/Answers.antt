use Rattle.std.proofs.Common.{subst, sym}
use Rattle.pf_values.specs.meaning.Printing.{AreEquivalent}
use Rattle.uses.proofs.meaning.share_a_text.Goals as goal

pub returns-in-Ok : goal.returns-in-Ok
returns-in-Ok c = λ yes.
    let accepted = c.in-Ok.ensures in
    let law = c.sameness.ensures c.args.model in
    let t = c.args.first.now in
    let u = c.args.second.now in
    let same = (law.2 t u accepted.first accepted.second).0 (accepted.same.0 yes) in (
      law.0 t accepted.first,
      law.1 t accepted.first,
      subst (AreEquivalent c.args.model u) (sym same) (law.1 u accepted.second),
    )
