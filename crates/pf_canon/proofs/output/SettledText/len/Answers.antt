use Rattle.std.proofs.Common.{arith}
use Rattle.pf_canon.proofs.OutputLemmas.{length-whole}
use Rattle.pf_canon.proofs.output.SettledText.len.Goals as goal

pub returns-clause-total : goal.returns-clause-total
returns-clause-total c =
    let p = c.args.self.now in
    omega (arith, c.whole_len.ensures.total, c.len.ensures, length-whole p.spaces p.zeros p.silents p.spelling.items p.trail)
