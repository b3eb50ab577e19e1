use Rattle.std.proofs.Common.{Option, codes, refl, sym}
use Rattle.pf_values.specs.meaning.Text.{Text}
use Rattle.fmtcanon.specs.Options.{rows_in}
use Rattle.fmtcanon.proofs.TaskLemmas.{none_there, some_there}
use Rattle.fmtcanon.proofs.command_line.ModelLemmas.{value_of_row}
use Rattle.fmtcanon.proofs.task.formats_task.Goals as goal

abbrev same : Option Text → Option Text
same o = o

pub returns-in-None-clause-ok : goal.returns-in-None-clause-ok
returns-in-None-clause-ok c = (
  refl,
  sym c.if-is_set.ensures,
  none_there (rows_in c.args.inner.now)
      (value_of_row same (codes "F") c.args.inner.now c.get_str.result _ c.get_str.ensures c.in-None.is),
)

pub returns-in-Some-clause-err : goal.returns-in-Some-clause-err
returns-in-Some-clause-err c =
    let rows = rows_in c.args.inner.now in
    let there = some_there rows c.in-Some.field-0.now (value_of_row same (codes "F") c.args.inner.now c.get_str.result _ c.get_str.ensures c.in-Some.is) in
    (sym c.if-is_set.ensures, there)
