use Rattle.pf_text.proofs.SearchLemmas.{first_ended, first_few, first_none, none_in}
use Rattle.pf_text.proofs.search.literals_at.Goals as goal

pub returns-then-ends-eq0-clause-none : goal.returns-then-ends-eq0-clause-none
returns-then-ends-eq0-clause-none g c = none_in c.args.text.now c.args.at g.row.N c.requires.room c.requires.few c.ends_at-ends.result
    c.ends_at-ends.ensures c.if-ends-eq0.true

pub returns-clause-few : goal.returns-clause-few
returns-clause-few g c = first_few c.args.text.now c.args.at g.row.N c.requires.room c.requires.few c.ends_at-ends.result c.ends_at-ends.ensures
    c.if-ends-eq0.false

pub returns-clause-none : goal.returns-clause-none
returns-clause-none g c = first_none c.args.text.now c.args.at g.row.N c.requires.room c.requires.few c.ends_at-ends.result c.ends_at-ends.ensures
    c.if-ends-eq0.false

pub returns-clause-ended : goal.returns-clause-ended
returns-clause-ended g c = first_ended c.args.text.now c.args.at g.row.N c.requires.room c.requires.few c.ends_at-ends.result
    c.ends_at-ends.ensures c.if-ends-eq0.false
