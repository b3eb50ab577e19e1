-- What is printed and a zero are put at the front of a buffer.
use Rattle.std.proofs.Common.{◌≡◌, ◌∙◌, ℕ, List, ◌+◌, ◌-◌, ◌<◌, ◌≤◌, [], ◌∷◌, ◌++◌, length, take, drop, slice_set, get_or, sym, ap, arith, append_assoc}
use Rattle.std.specs.Prelude.{Option, if◌then◌else◌}
use Rattle.std.proofs.lemmas.Bool.{le-leb}
use Rattle.std.proofs.lemmas.List.{drop-append-le, drop-drop, drop_more, flat_map_more, length-append, length-drop, length-take, set_at, take-append-drop, take_more}
use Rattle.std.proofs.lemmas.List.Folds.{length-flat_map-take}
use Rattle.pf_values.specs.meaning.Text.{Text}
use Rattle.pf_render.specs.Rendering.{IsPutIfFits}
use Rattle.fmtcanon_c.specs.Buffers.{put}
use Rattle.fmtcanon_c.specs.Words.{ended_words, word_or_any}
use Rattle.pf_compare.specs.declared.owned_args.OwnedArg.{OwnedArg}
use Rattle.pf_compare.proofs.ListLemmas.{drop_after, take_whole}

put_fits : (bytes out : Text) → length bytes ≤ length out → put bytes out ≡ bytes ++ drop (length bytes) out
put_fits bytes out fits = ap (λ b. if b then bytes ++ drop (length bytes) out else out) (le-leb (length bytes) (length out) fits)

-- all but the last byte of the buffer is its front, where the text was put
pub put_ended : (printed out front back new : Text) (room at : ℕ) → front ≡ take room out → back ≡ drop room out → room ≡ length out - 1
    → IsPutIfFits printed front new → at ≡ length printed → at < length out → slice_set (new ++ back) at 0 ≡ put (printed ++ 0 ∷ []) out
put_ended printed out front back new room at front_is back_is room_is is_put at_is less =
    let len : length front ≡ room = ap length front_is ∙ length-take room out ∙ omega (arith, room_is) in
    let fits : length printed ≤ length front = omega (arith, len, room_is, at_is, less) in
    let whole : front ++ back ≡ out = ap (λ f. f ++ back) front_is ∙ ap (λ b. take room out ++ b) back_is ∙ take-append-drop room out in
    let rest : drop (length printed) front ++ back ≡ drop (length printed) out = sym (drop-append-le (length printed) front back fits)
    ∙ ap (drop (length printed)) whole in
    let there : length printed < length out = omega (arith, at_is, less) in
    let more = length-append printed (0 ∷ []) in
    let end : length (printed ++ 0 ∷ []) ≡ length printed + 1 = omega (arith, more) in
    let split : new ++ back ≡ printed ++ (get_or out (length printed) 0 ∷ drop (length printed + 1) out) = ap (λ n. n ++ back) (is_put.fits fits)
    ∙ append_assoc printed (drop (length printed) front) back
    ∙ ap (λ r. printed ++ r) (rest ∙ drop_more out (length printed) 0 there) in
    ap (λ l. slice_set l at 0) split
    ∙ set_at printed (get_or out (length printed) 0) (drop (length printed + 1) out) 0 at (sym at_is)
    ∙ sym (append_assoc printed (0 ∷ []) (drop (length printed + 1) out))
    ∙ ap (λ n. (printed ++ 0 ∷ []) ++ drop n out) (sym end)
    ∙ sym (put_fits (printed ++ 0 ∷ []) out (omega (arith, end, there)))

-- two texts and a zero are put at an offset
pub put_between : (out first second : Text) (at : ℕ) (front back rest end one two : Text) → front ≡ take at out → back ≡ drop at out
    → rest ≡ drop (length first) back → end ≡ drop (length second) rest → one ≡ first → two ≡ second
    → at + length (first ++ second ++ 0 ∷ []) ≤ length out
    → front ++ (one ++ (two ++ slice_set end 0 0))
    ≡ take at out ++ (first ++ second ++ 0 ∷ []) ++ drop (at + length (first ++ second ++ 0 ∷ [])) out
put_between out first second at front back rest end one two front_is back_is rest_is end_is one_is two_is few =
    let n = at + length first + length second in
    let all = length-append (first ++ second) (0 ∷ []) in
    let both = length-append first second in
    let less : n < length out = omega (arith, few, all, both) in
    let last : n + 1 ≡ at + length (first ++ second ++ 0 ∷ []) = omega (arith, all, both) in
    let tail = drop (n + 1) out in
    let ends : end ≡ drop n out = end_is ∙ ap (drop (length second)) (rest_is ∙ ap (drop (length first)) back_is ∙ drop-drop (length first) at out)
    ∙ drop-drop (length second) (at + length first) out in
    let set : slice_set end 0 0 ≡ 0 ∷ tail = ap (λ l. slice_set l 0 0) (ends ∙ drop_more out n 0 less) in
    rw (front_is, one_is, two_is, set) (sym (append_assoc (take at out) (first ++ second ++ 0 ∷ []) tail
    ∙ ap (λ l. take at out ++ l) (append_assoc (first ++ second) (0 ∷ []) tail ∙ append_assoc first second (0 ∷ tail)))
    ∙ ap (λ k. take at out ++ (first ++ second ++ 0 ∷ []) ++ drop k out) last)

-- one word more is put after those of the arguments so far
module _ (shown : List (Option OwnedArg)) (i at : ℕ) (d item : Option OwnedArg) (is : item ≡ get_or shown i d) (less : i < length shown)
    (before out : Text) (at_is : at ≡ length (ended_words (take i shown))) (out_is : out ≡ ended_words (take i shown) ++ drop at before)
    (room : length (ended_words shown) ≤ length before) where
  abbrev word : Text
  word = word_or_any item ++ 0 ∷ []

  words_more : ended_words (take (i + 1) shown) ≡ ended_words (take i shown) ++ word
  words_more = ap ended_words (take_more shown i d less) ∙ sym (flat_map_more (λ argument. word_or_any argument ++ 0 ∷ []) [] (take i shown) (get_or shown i d))
      ∙ ap (λ argument. ended_words (take i shown) ++ (word_or_any argument ++ 0 ∷ [])) (sym is)

  within : at + length word ≤ length before
  within = omega (
    arith,
    at_is,
    room,
    length-flat_map-take (λ argument. word_or_any argument ++ 0 ∷ []) shown i d less,
    ap (λ argument. length (word_or_any argument ++ 0 ∷ [])) is,
  )

  pub word_fits : at + length word ≤ length out
  word_fits = omega (arith, within, at_is, ap length out_is, length-append (ended_words (take i shown)) (drop at before), length-drop at before)

  pub word_put : (now : Text) (after : ℕ) → after ≡ at + length word → now ≡ take at out ++ word ++ drop (at + length word) out
      → (after ≡ length (ended_words (take (i + 1) shown))) × (now ≡ ended_words (take (i + 1) shown) ++ drop after before)
  word_put now after after_is now_is =
      let front : take at out ≡ ended_words (take i shown) =
      ap (take at) out_is ∙ ap (λ n. take n (ended_words (take i shown) ++ drop at before)) at_is ∙ take_whole (ended_words (take i shown)) (drop at before) in
      let back : drop (at + length word) out ≡ drop after before =
      ap (drop (at + length word)) out_is ∙ drop_after (ended_words (take i shown)) (drop at before) (at + length word) (length word) (omega (arith, at_is))
      ∙ drop-drop (length word) at before ∙ ap (λ n. drop n before) (sym after_is) in (
        omega (arith, after_is, at_is, ap length words_more, length-append (ended_words (take i shown)) word),
        now_is ∙ ap (λ l. l ++ word ++ drop (at + length word) out) front ∙ ap (λ l. ended_words (take i shown) ++ word ++ l) back
            ∙ ap (λ l. l ++ drop after before) (sym words_more),
      )
