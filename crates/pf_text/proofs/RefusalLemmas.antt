-- The refusal of a text in which no item begins at an offset.
use Rattle.std.proofs.Common.{◌≡◌, ℕ, ◌+◌, ◌-◌, ◌<◌, ◌≤◌, List, [], ◌∷◌, ◌++◌, drop, get_or, length, take, sym, ap, ◌∙◌, subst, arith, Ok, Err}
use Rattle.std.proofs.Math.Seq.{take-add}
use Rattle.std.proofs.lemmas.List.{append-nil, drop-drop, drop_more, length-append, length-drop, length-take, length-take-le, take-append-drop, take_all, take_more}
use Rattle.pf_values.specs.declared.limits.TheConstants.{MAX_TEXT_LEN}
use Rattle.pf_values.specs.meaning.Items.{Item, Byte, Directive, Reads}
use Rattle.pf_values.specs.meaning.Refusals.{IsRefusedAt}
use Rattle.pf_values.specs.meaning.Text.{Text, percent}
use Rattle.pf_text.specs.History.{Feeds, Finishes, IsAfter}
use Rattle.pf_text.specs.PieceHistory.{NextIsRefusal}
use Rattle.pf_text.specs.Walks.{IsItemsEnd}
use Rattle.pf_text.specs.declared.refusals.Refusal.{Refusal}
use Rattle.pf_text.specs.declared.scanner.Scanner.{Scanner}
use Rattle.pf_text.specs.declared.scanner.Step.{Step}
use Rattle.pf_text.specs.declared.scanner.Step.TheVariants as steps
use Rattle.pf_text.proofs.PieceTexts.{read_rest}
use Rattle.pf_text.proofs.ReadingLemmas.{part_of_front}

-- the bytes up to one offset, and those from there up to another
pub take_between : (t : Text) (start stop : ℕ) → start ≤ stop → take stop t ≡ take start t ++ take (stop - start) (drop start t)
take_between t start stop up =
    let place : start + (stop - start) ≡ stop = omega (arith, up) in
    ap (λ k. take k t) (sym place) ∙ take-add start (stop - start) t

rest_between : (t : Text) (start stop : ℕ) → start ≤ stop → drop start t ≡ take (stop - start) (drop start t) ++ drop stop t
rest_between t start stop up =
    let place : start + (stop - start) ≡ stop = omega (arith, up) in
    sym (take-append-drop (stop - start) (drop start t)) ∙ ap (λ u. take (stop - start) (drop start t) ++ u)
    (drop-drop (stop - start) start t ∙ ap (λ k. drop k t) place)

module _ (text : Text) (start : ℕ) (items : List Item) (end : IsItemsEnd text start) (reads : Reads (take start text) items) where
  -- no more items are read up to a later offset
  no_more : (stop : ℕ) (item : Item) → start ≤ stop → stop ≤ length text → stop ≤ MAX_TEXT_LEN → Reads (take stop text) (items ++ item ∷ []) → ⊥
  no_more stop item up within few all =
      let front = take MAX_TEXT_LEN text in
      let bytes = take (stop - start) (drop start text) in
      let more : Reads bytes (item ∷ []) = read_rest items (item ∷ []) (take start text) bytes reads
      (subst (λ u. Reads u (items ++ item ∷ [])) (take_between text start stop up) all) in
      let inside : stop ≤ length front = omega (arith, within, few, length-take MAX_TEXT_LEN text) in
      let whole : drop start front ≡ bytes ++ drop stop front =
      rest_between front start stop up ∙ ap (λ u. u ++ drop stop front) (part_of_front text MAX_TEXT_LEN start stop up inside) in
      let first : bytes ≡ more.0 = more.4 ∙ ap (λ u. more.0 ++ u) more.3 ∙ append-nil more.0 in
      end.last more.0 (drop stop front) item (whole ∙ ap (λ u. u ++ drop stop front) first) more.2

  module _ (at : ℕ) (up : start ≤ at) (some : at < length text) where
    next_byte : take (at + 1) text ≡ take at text ++ get_or text at 0 ∷ []
    next_byte = take_more text at 0 some

    -- a byte was taken, which ends none
    pub fed_more : (step : Step) (new : Scanner) → Feeds (take at text) items (get_or text at 0) (Ok step) new → IsAfter new (take (at + 1) text) items
    fed_more steps.More new h = subst (λ u. IsAfter new u items) (sym next_byte) h.after
    fed_more (steps.Byte b) new h = absurd (ended (Byte b) h.after.limit h.says.0)
      where
        ended : (item : Item) → length (take at text ++ get_or text at 0 ∷ []) ≤ MAX_TEXT_LEN
            → Reads (take at text ++ get_or text at 0 ∷ []) (items ++ item ∷ []) → ⊥
        ended item few all = no_more (at + 1) item (omega (arith, up)) (omega (arith, some))
            (omega (arith, few, length-append (take at text) (get_or text at 0 ∷ []), length-take-le at text (omega (arith, some))))
            (subst (λ u. Reads u (items ++ item ∷ [])) (sym next_byte) all)
    fed_more steps.Percent new h = absurd (no_more (at + 1) (Byte percent) (omega (arith, up)) (omega (arith, some))
        (omega (arith, h.after.limit, length-append (take at text) (get_or text at 0 ∷ []), length-take-le at text (omega (arith, some))))
        (subst (λ u. Reads u (items ++ Byte percent ∷ [])) (sym next_byte) h.says))
    fed_more (steps.Directive d) new h = absurd (no_more (at + 1) (Directive d) (omega (arith, up)) (omega (arith, some))
        (omega (arith, h.after.limit, length-append (take at text) (get_or text at 0 ∷ []), length-take-le at text (omega (arith, some))))
        (subst (λ u. Reads u (items ++ Directive d ∷ [])) (sym next_byte) h.says))

    -- or rejected
    pub refused_there : (scanner : Scanner) (refusal : Refusal) (new : Scanner) → IsAfter scanner (take at text) items
        → Feeds (take at text) items (get_or text at 0) (Err refusal) new → NextIsRefusal text items refusal
    refused_there scanner refusal new after h =
        let whole : text ≡ take at text ++ get_or text at 0 ∷ drop (at + 1) text =
        sym (take-append-drop at text) ∙ ap (λ u. take at text ++ u) (drop_more text at 0 some) in
        record {
          refused = subst (λ u. IsRefusedAt u refusal.kind refusal.at) (sym whole) (h.1 (drop (at + 1) text));
          front = take at text;
          rest = get_or text at 0 ∷ drop (at + 1) text;
          part = after.part;
          split = whole;
          offset = h.0;
          good = after.good;
        }

  module _ (at : ℕ) (over : at ≡ length text) where
    all_taken : take at text ≡ text
    all_taken = take_all at text (omega (arith, over))

    -- no byte is left, and the text is whole
    pub whole_there : Reads (take at text) items → start ≡ length text
    whole_there all =
        let bytes = take (at - start) (drop start text) in
        let more : Reads bytes [] = read_rest items [] (take start text) bytes reads
        (subst (λ u. Reads u (items ++ [])) (take_between text start at (omega (arith, over, end.within)))
        (subst (Reads (take at text)) (sym (append-nil items)) all)) in
        omega (arith, over, end.within, ap length more, length-take (at - start) (drop start text), length-drop start text)

    -- or cut off
    pub truncated_there : (scanner : Scanner) → IsAfter scanner (take at text) items → (refusal : Refusal) → Finishes (take at text) items (Err refusal)
        → NextIsRefusal text items refusal
    truncated_there scanner after refusal h = record {
      refused = subst (λ u. IsRefusedAt u refusal.kind refusal.at) all_taken h.2;
      front = take at text;
      rest = [];
      part = after.part;
      split = sym (append-nil (take at text) ∙ all_taken);
      offset = h.1;
      good = after.good;
    }
