use Rattle.std.proofs.Common.{[], arith, sym, ◌∙◌}
use Rattle.pf_literals.specs.Walks.{part_bytes, part_offsets}
use Rattle.pf_literals.proofs.Complete.{prefixed-none}
use Rattle.pf_literals.proofs.OffsetLemmas.{at_end, further, none_behind, none_past, there_or_not}
use Rattle.pf_literals.proofs.offsets.source_offset.Goals as goal

pub loop-part-init : goal.loop-part-init
loop-part-init c = ([], [], sym (c.new-cursor.ensures c.args.source.now) ∙ sym (prefixed-none _), omega arith)

pub returns-in-Some : goal.returns-in-Some
returns-in-Some c =
    let i = c.loop-part.invariant in
    let part = c.in-Given.part in
    there_or_not c.args.source.now i.0 i.1 _ i.2 (part_bytes part)
    (part_offsets part) c.next_part.new.self c.args.index c.loop-part.left c.in-Some.at c.if_accepted.result
    c.in-Given.ensures.next i.3 c.in-Some.ensures c.if_accepted.ensures

pub overflow_sub-left : goal.overflow_sub-left
overflow_sub-left c = none_past (part_offsets c.in-Given.part) c.loop-part.left c.len_of-left.result c.in-None.ensures c.len_of-left.ensures

pub loop-part-preserved : goal.loop-part-preserved
loop-part-preserved c =
    let i = c.loop-part.invariant in
    let part = c.in-Given.part in
    further c.args.source.now i.0 i.1 _ i.2 (part_bytes part) (part_offsets part) _ c.args.index c.loop-part.left c.len_of-left.result
    c.in-Given.ensures.next i.3 c.len_of-left.ensures (none_past (part_offsets part) c.loop-part.left c.len_of-left.result c.in-None.ensures
    c.len_of-left.ensures)

pub returns-in-End : goal.returns-in-End
returns-in-End c =
    let i = c.loop-part.invariant in
    at_end c.args.source.now i.0 i.1 _ i.2 c.in-End.close c.in-End.ensures.next c.args.index c.loop-part.left c.last_offset.result i.3 c.last_offset.ensures

pub returns-in-Refused : goal.returns-in-Refused
returns-in-Refused c =
    let i = c.loop-part.invariant in
    none_behind c.args.source.now i.0 i.1 _ i.2 c.args.index c.in-Refused.field-0.at c.in-Refused.field-0.kind c.in-Refused.ensures.next
