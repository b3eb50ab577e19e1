use Rattle.std.proofs.Common.{arith}
use Rattle.pf_reduce.proofs.LetterLemmas.{filled_change}
use Rattle.pf_reduce.proofs.changes.is_filled_unsigned.Goals as goal

pub returns : goal.returns
returns c = λ yes.
    let r = c.requires in
    let e = c.is_filled.ensures in (
      e.flags yes,
      e.precision yes,
      omega (arith, e.some yes),
      filled_change c.args.model c.args.directive.now r.parts r.number r.unsigned (e.flags yes) (e.precision yes) (e.some yes) (e.most yes),
    )
