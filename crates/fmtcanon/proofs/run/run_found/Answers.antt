use Rattle.std.proofs.Common.{◌∙◌, Ok, ap}
use Rattle.fmtcanon.specs.declared.task.Task.TheVariants.{Records, Stream}
use Rattle.fmtcanon.proofs.run.run_found.Goals as goal

pub answer_records-requires : goal.answer_records-requires
answer_records-requires g c =
    let task = c.in-Ok-Records in
    record { ready = λ left now h. c.requires.ready (Records task.asked) left now (task.is ∙ ap Ok task.field-0-is) h }

pub copy-requires : goal.copy-requires
copy-requires g c =
    let task = c.in-Ok-Stream in
    record { ready = λ left now. c.requires.ready (Stream task.model) left now (task.is ∙ ap Ok task.field-0-is) tt }
