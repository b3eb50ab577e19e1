use Rattle.std.proofs.Common.{arith, length, take, ◌≡◌}
use Rattle.std.proofs.lemmas.List.{length-take-le}
use Rattle.pf_literals.proofs.EncodingLemmas.{spelled-part}
use Rattle.pf_literals.proofs.encoded_parts.EncodedPart.of.Goals as goal

pub returns : goal.returns
returns c =
    let t = c.args.text.now in
    let len = c.verbatim_len-len.result in
    let e = c.verbatim_len-len.ensures in
    let long : length (take len t) ≡ len = length-take-le len t e.within in
    record {
      text = spelled-part c.args.after t len e.within e.verbatim (omega (arith, c.if-len-eq0.false));
      some = omega (arith, long, c.if-len-eq0.false);
      within = omega (arith, long, e.within);
      few = omega arith;
    }
