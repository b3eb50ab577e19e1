use Rattle.pf_canon.proofs.CommonLemmas.{all_same, first_other, first_same}
use Rattle.pf_canon.proofs.common_prefix.equal_at.Goals as goal

pub returns-then-differences-eq0-clause-same : goal.returns-then-differences-eq0-clause-same
returns-then-differences-eq0-clause-same g c = all_same c.args.x.now c.args.y.now c.args.at g.row.N c.requires.first c.requires.second c.requires.lanes
    c.if-differences-eq0.true

pub returns-clause-few : goal.returns-clause-few
returns-clause-few g c = (first_same c.args.x.now c.args.y.now c.args.at g.row.N c.requires.first c.requires.second c.requires.lanes
    c.if-differences-eq0.false).0

pub returns-clause-same : goal.returns-clause-same
returns-clause-same g c = (first_same c.args.x.now c.args.y.now c.args.at g.row.N c.requires.first c.requires.second c.requires.lanes
    c.if-differences-eq0.false).1

pub returns-clause-other : goal.returns-clause-other
returns-clause-other g c = first_other c.args.x.now c.args.y.now c.args.at g.row.N c.requires.first c.requires.second c.requires.lanes
    c.if-differences-eq0.false
