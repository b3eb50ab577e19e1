use Rattle.std.proofs.Common.{◌++◌, [], ap, sym, ◌∙◌}
use Rattle.pf_literals.specs.Readings.{prefixed}
use Rattle.pf_literals.specs.Walks.{part_bytes, part_offsets}
use Rattle.pf_literals.proofs.Complete.{prefixed-none, prefixed-prefixed}
use Rattle.pf_literals.proofs.cursor.Cursor.refusal.Goals as goal

pub loop-refusal-init : goal.loop-refusal-init
loop-refusal-init c = ([], [], sym (prefixed-none _))

pub loop-refusal-preserved : goal.loop-refusal-preserved
loop-refusal-preserved c =
    let i = c.loop-refusal.invariant in
    let part = c.in-Given.field-0 in (
      i.0 ++ part_bytes part,
      i.1 ++ part_offsets part,
      i.2 ∙ ap (prefixed i.0 i.1) c.in-Given.ensures.next ∙ prefixed-prefixed i.0 (part_bytes part) i.1 (part_offsets part) _,
    )
