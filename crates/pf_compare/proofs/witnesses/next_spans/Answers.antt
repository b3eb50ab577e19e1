use Rattle.pf_compare.proofs.SpanLemmas.{all_passed, both_next, none_missing}
use Rattle.pf_compare.proofs.witnesses.next_spans.Goals as goal

pub returns-in_default : goal.returns-in_default
returns-in_default c = λ t u whole n r h g. all_passed c.args.model t u whole r n c.next.new.self c.next.new.self c.in_ok-one.field-0
    (c.in_ok-one.ensures t n (r.xs, r.accepted_first) h) c.in_default.is

pub unreachable-requires : goal.unreachable-requires
unreachable-requires c =
    let a = c.requires in
    let r = a.4 in
    none_missing c.args.model a.0 a.1 a.2 r a.3 c.next.new.self c.next-2.new.self c.in-Some.one c.in_ok-one.field-0 c.in_ok-two.field-0
    (c.in_ok-one.ensures a.0 a.3 (r.xs, r.accepted_first) a.5) (c.in_ok-two.ensures a.1 a.3 (r.ys, r.accepted_second) a.6)
    c.in-Some.is c.in_default-2.is

pub returns : goal.returns
returns c = λ t u whole n r h g. both_next c.args.model t u whole r n c.next.new.self c.next-2.new.self c.in-Some.one c.in-Some-2.two
    c.in_ok-one.field-0 c.in_ok-two.field-0
    (c.in_ok-one.ensures t n (r.xs, r.accepted_first) h) (c.in_ok-two.ensures u n (r.ys, r.accepted_second) g) c.in-Some.is c.in-Some-2.is
