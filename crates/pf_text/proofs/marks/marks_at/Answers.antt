use Rattle.pf_text.proofs.MarkLemmas.{vector_marked}
use Rattle.pf_text.proofs.marks.marks_at.Goals as goal

pub returns : goal.returns
returns g c = vector_marked c.args.text.now c.args.at g.row.N c.requires.room c.requires.few c.ends_at.result c.ends_at.ensures
