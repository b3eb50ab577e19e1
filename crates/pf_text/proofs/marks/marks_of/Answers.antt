use Rattle.std.proofs.Common.{◌+◌, ◌-◌, ◌≡◌, arith, bit_or, length, subst}
use Rattle.pf_text.specs.Marks.{IsMarked}
use Rattle.pf_text.proofs.MarkLemmas.{both_marked}
use Rattle.pf_text.proofs.marks.marks_of.Goals as goal

pub returns-then-len-lt-LANES : goal.returns-then-len-lt-LANES
returns-then-len-lt-LANES c =
    let text = c.args.text.now in
    let len = length text in
    let first = c.marks_at in
    let last = c.marks_at-then-len-lt-LANES in
    let end : len - 8 + 8 ≡ len = omega (arith, c.requires.some) in
    both_marked first.result last.result text 0 8 (len - 8) len first.ensures (subst (IsMarked last.result text (len - 8)) end last.ensures)
    (omega (arith, c.if-len-lt-LANES.true)) (omega (arith, c.requires.some))

pub returns-then-len : goal.returns-then-len
returns-then-len c =
    let text = c.args.text.now in
    let len = length text in
    let last = c.marks_at-last in
    let end : len - 16 + 16 ≡ len = omega (arith, c.if-len-lt-LANES.false) in
    both_marked c.marks_at-marks.result last.result text 0 16 (len - 16) len c.marks_at-marks.ensures
    (subst (IsMarked last.result text (len - 16)) end last.ensures)
    (omega (arith, c.if-len.true)) (omega (arith, c.if-len-lt-LANES.false))

pub returns-then-len-2 : goal.returns-then-len-2
returns-then-len-2 c =
    let text = c.args.text.now in
    let len = length text in
    let first = c.marks_at-marks in
    let second = c.marks_at-2 in
    let last = c.marks_at-last in
    let end : len - 16 + 16 ≡ len = omega (arith, c.if-len.false) in
    let front = both_marked first.result second.result text 0 16 16 32 first.ensures second.ensures (omega arith) (omega arith) in
    both_marked (bit_or first.result second.result) last.result text 0 32 (len - 16) len front (subst (IsMarked last.result text (len - 16)) end last.ensures)
    (omega (arith, c.if-len-2.true)) (omega (arith, c.if-len.false))

pub returns : goal.returns
returns c =
    let text = c.args.text.now in
    let len = length text in
    let first = c.marks_at-marks in
    let second = c.marks_at-2 in
    let third = c.marks_at-3 in
    let last = c.marks_at-last in
    let end : len - 16 + 16 ≡ len = omega (arith, c.if-len-2.false) in
    let front = both_marked first.result second.result text 0 16 16 32 first.ensures second.ensures (omega arith) (omega arith) in
    let most = both_marked (bit_or first.result second.result) third.result text 0 32 32 48 front third.ensures (omega arith) (omega arith) in
    both_marked (bit_or (bit_or first.result second.result) third.result) last.result text 0 48 (len - 16) len most
    (subst (IsMarked last.result text (len - 16)) end last.ensures) (omega (arith, c.requires.few)) (omega (arith, c.if-len-2.false))
