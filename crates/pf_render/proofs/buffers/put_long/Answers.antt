use Rattle.std.proofs.Common.{◌≡◌, ◌≤◌, length, ap, arith}
use Rattle.pf_render.proofs.BufferLemmas.{RendersBy-unique, put_fitting}
use Rattle.pf_render.proofs.buffers.put_long.Goals as goal

pub fill-requires-clause-room : goal.fill-requires-clause-room
fill-requires-clause-room g c printed h =
    let out = c.in-Ok.ensures in
    omega (arith, c.if-len-out.false, out.2.0, ap length (RendersBy-unique out.0 printed out.1 h))

pub returns : goal.returns
returns g c =
    let out = c.in-Ok.ensures in
    let put = c.fill.ensures in
    let same = ap length (RendersBy-unique out.0 put.0 out.1 put.1) in
    let count : c.in-Ok.len ≡ length put.0 = omega (arith, same, out.2.0) in
    let fits : length put.0 ≤ length c.args.out.now = omega (arith, count, c.if-len-out.false) in
    (put.0, put.1, (count, out.2.1, put_fitting put.0 _ _ fits put.2))
