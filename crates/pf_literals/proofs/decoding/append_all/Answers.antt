use Rattle.std.proofs.Common.{◌++◌}
use Rattle.pf_literals.specs.Walks.{part_bytes, part_offsets}
use Rattle.pf_literals.proofs.DecodingLemmas.{all_read, appended, hindered, refused}
use Rattle.pf_literals.proofs.decoding.append_all.Goals as goal

pub loop-part-preserved : goal.loop-part-preserved
loop-part-preserved g c =
    let t = c.args.source.now in
    let i = c.loop-part.invariant in
    let part = c.in-Given.part in (
      i.0 ++ part_offsets part,
      appended t c.loop-part.out.items i.0 _ i.1 (part_bytes part) (part_offsets part) c.append.new.out.items _ c.in-Given.ensures.next c.in-Ok.ensures,
    )

pub returns-in-End : goal.returns-in-End
returns-in-End g c =
    let i = c.loop-part.invariant in
    (all_read c.args.source.now c.loop-part.out.items i.0 _ i.1 c.in-End.field-0 c.in-End.ensures.next).0

pub returns-in-Refused : goal.returns-in-Refused
returns-in-Refused g c =
    let i = c.loop-part.invariant in
    refused c.args.source.now c.loop-part.out.items i.0 _ i.1 c.in-Refused.refusal.kind c.in-Refused.refusal.at c.in-Refused.ensures.next

pub returns-in-Err : goal.returns-in-Err
returns-in-Err g c =
    let i = c.loop-part.invariant in
    let part = c.in-Given.part in
    hindered c.args.source.now c.loop-part.out.items i.0 (part_bytes part) (part_offsets part) _ c.next_part.new.self c.fault_of.result i.1
    c.in-Given.ensures.next c.in-Given.ensures.further.2 c.fault_of.ensures
