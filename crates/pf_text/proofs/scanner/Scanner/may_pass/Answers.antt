use Rattle.std.proofs.Common.{◌≤◌, arith}
use Rattle.pf_values.specs.declared.limits.TheConstants.{MAX_TEXT_LEN}
use Rattle.pf_text.proofs.LiteralLemmas.{room_left}
use Rattle.pf_text.proofs.scanner.Scanner.may_pass.Goals as goal

pub returns : goal.returns
returns c t items h is =
    let offset = c.args.self.now.offset in
    let limit = h.limit in
    let few : offset ≤ MAX_TEXT_LEN = omega (arith, h.offset, limit) in
    (rw is at (c.is_between.ensures.read t items h), omega (arith, few, c.if-most-self.false, room_left offset few))
