use Rattle.std.proofs.Common.{◌+◌, ◌<◌, ◌∙◌, ap, arith, length, sym}
use Rattle.std.proofs.lemmas.List.{get_or-drop, length-drop, take_rest}
use Rattle.memchr.specs.Find.{is_byte2}
use Rattle.pf_text.proofs.WalkLemmas.{none_in_rest}
use Rattle.pf_text.proofs.literal_runs.next_by_search.Goals as goal

pub returns-then-end-text : goal.returns-then-end-text
returns-then-end-text c = none_in_rest c.args.text.now c.args.from (length c.args.text.now) c.literal_len.result
    (omega (arith, c.if-end-text.true)) (rw take_rest at c.literal_len.ensures.none)

pub returns : goal.returns
returns c =
    let text = c.args.text.now in
    let from = c.args.from in
    let n = c.literal_len.result in
    let within = rw take_rest at c.literal_len.ensures.within in
    let inside : from + n < length text = omega (arith, within, length-drop from text, c.requires, c.if-end-text.false) in
    let ended = rw take_rest at c.literal_len.ensures.ended in (
      omega arith,
      inside,
      none_in_rest text from (from + n) n (omega arith) (rw take_rest at c.literal_len.ensures.none),
      ap (is_byte2 37 0) (sym (get_or-drop from text n 0)) ∙ ended (omega (arith, inside, length-drop from text)),
    )
