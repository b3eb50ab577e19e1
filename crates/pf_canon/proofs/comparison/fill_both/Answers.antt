use Rattle.std.proofs.Common.{◌++◌}
use Rattle.pf_canon.proofs.ComparisonLemmas.{first_stops, sides_later}
use Rattle.pf_canon.proofs.comparison.fill_both.Goals as goal

pub returns-in-Ok-clause-in_step : goal.returns-in-Ok-clause-in_step
returns-in-Ok-clause-in_step g c model f h k =
    let next = c.in-Ok.ensures.next model f k.t k.given k.one in
    c.fill_second.ensures.in_step model f h _ k.u k.given next.1 c.in-Ok.ensures.filled k.two

pub returns-in-Ok-clause-counts : goal.returns-in-Ok-clause-counts
returns-in-Ok-clause-counts g c =
    sides_later g.A.ByteSource.kept g.A.ByteSource.failed g.B.ByteSource.kept g.B.ByteSource.failed g.met.A.ByteSource.kept_later
    g.met.A.ByteSource.failed_later g.met.B.ByteSource.kept_later g.met.B.ByteSource.failed_later (Unit {0}) c.fill_second.result
    c.args.a.now c.fill.new.bytes c.fill_second.new.a c.args.b.now c.args.b.now c.fill_second.new.b c.in-Ok.ensures.counts
    (g.met.B.ByteSource.kept_itself c.args.b.now) c.fill_second.ensures.counts

pub returns-in-Err-clause-in_step : goal.returns-in-Err-clause-in_step
returns-in-Err-clause-in_step g c model f h k =
    let next = c.in-Err.ensures.next model f k.t k.given k.one in
    first_stops model f _ h _ c.in-Err.fault c.fill.new.self c.args.second.now (k.t ++ next.0) k.u k.given next.1 k.two k.in_step
