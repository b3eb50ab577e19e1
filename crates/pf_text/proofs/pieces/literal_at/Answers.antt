use Rattle.std.proofs.Common.{◌+◌, ◌≡◌, ◌∙◌, ap, arith, inr, refl, subst, sym}
use Rattle.std.proofs.lemmas.List.{get_or-drop, length-drop, take_rest}
use Rattle.memchr.specs.Find.{Passes, is_byte2}
use Rattle.pf_text.proofs.NoItemLemmas.{no_item, nothing_at_stop}
use Rattle.pf_text.proofs.PieceLemmas.{literal_piece}
use Rattle.pf_text.proofs.pieces.literal_at.Goals as goal

pub returns-then-stop-at : goal.returns-then-stop-at
returns-then-stop-at c =
    let text = c.args.text.now in
    let at = c.args.at in
    let n = c.literal_len.result in
    let place : at + n ≡ at = c.if-stop-at.true in
    let ended = rw take_rest at c.literal_len.ensures.ended in
    let passes : Passes (is_byte2 37 0) text at = subst (Passes (is_byte2 37 0) text) place
    (ap (is_byte2 37 0) (sym (get_or-drop at text n 0)) ∙ ended (omega (arith, place, c.requires.within, length-drop at text))) in
    no_item text at (nothing_at_stop text at passes (inr c.requires.other))

pub returns : goal.returns
returns c =
    let text = c.args.text.now in
    let at = c.args.at in
    let n = c.literal_len.result in
    let within = rw take_rest at c.literal_len.ensures.within in
    literal_piece text at n _ (omega (arith, c.if-stop-at.false)) (omega (arith, within, length-drop at text, c.requires.within)) refl
    (rw take_rest at c.literal_len.ensures.none) (rw take_rest at c.literal_len.ensures.ended)
