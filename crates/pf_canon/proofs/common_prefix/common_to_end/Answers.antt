use Rattle.std.proofs.Common.{◌+◌, ◌-◌, ◌≤◌, arith}
use Rattle.pf_canon.proofs.CommonLemmas.{common_fewer, ends_within}
use Rattle.pf_canon.proofs.ComparisonLemmas.{common_more}
use Rattle.pf_canon.proofs.common_prefix.common_to_end.Goals as goal

pub returns-clause-common : goal.returns-clause-common
returns-clause-common g c =
    let x = c.args.x.now in
    let y = c.args.y.now in
    let r = c.requires in
    let at = c.args.most - g.row.N in
    let run = c.equal_at.ensures in
    let within : at + c.equal_at.result ≤ c.args.most = omega (arith, r.room, run.few) in
    common_more x y at c.equal_at.result (common_fewer x y c.args.known at r.common r.few) (omega (arith, within, r.first))
    (omega (arith, within, r.second)) run.same

pub returns-clause-ends : goal.returns-clause-ends
returns-clause-ends g c = ends_within c.args.x.now c.args.y.now c.args.most (c.args.most - g.row.N) g.row.N c.equal_at.result
    (omega (arith, c.requires.room)) c.equal_at.ensures.few c.requires.end c.equal_at.ensures.other
