-- What holds at an offset of a text holds after what a walk has passed, if it holds after each literal byte
-- and after each `%%`.
use Rattle.std.proofs.Common.{◌≡◌, ◌≢◌, ℕ, zero, suc, ◌+◌, ◌-◌, ◌<◌, ◌≤◌, max, Bool, true, false, List, [], ◌∷◌, ◌++◌, length, get_or, drop, drop-cons, take}
use Rattle.std.proofs.Common.{flat_map, refl, sym, ap, ap₂, ◌∙◌, arith, subst}
use Rattle.std.specs.Prelude.{◌==◌, if◌then◌else◌}
use Rattle.std.specs.List.{AllByRecursion}
use Rattle.std.proofs.lemmas.List.{length-drop, length-take-le, take_all}
use Rattle.pf_values.specs.declared.limits.TheConstants.{MAX_TEXT_LEN}
use Rattle.pf_values.specs.meaning.Canonical.{item_spelling}
use Rattle.pf_values.specs.meaning.Items.{Item, Byte, Directive}
use Rattle.pf_values.specs.meaning.Text.{Text, percent}
use Rattle.pf_text.specs.Walks.{HasPassed, IsPassed, IsPercent, IsWalkOver}
use Rattle.pf_text.specs.declared.walk.Walk.{Walk}

module _ (t : Text) (Front : ℕ → Type 0)
    (after_byte : (at b : ℕ) → at < length t → get_or t at 0 ≡ b → b ≢ 37 → b ≢ 0 → Front at → Front (at + 1))
    (after_percent : (at : ℕ) → at + 1 < length t → get_or t at 0 ≡ 37 → get_or t (at + 1) 0 ≡ 37 → Front at → Front (at + 2)) where
  next_byte : (at m b : ℕ) (rest : Text) → at + suc m ≤ length t → take (suc m) (drop at t) ≡ b ∷ rest
      → (get_or t at 0 ≡ b) × (take m (drop (at + 1) t) ≡ rest)
  next_byte at m b rest few e =
      let one = drop-cons t at 0 (omega (arith, few)) in
      let split : get_or t at 0 ∷ take m (drop (suc at) t) ≡ b ∷ rest = ap (take (suc m)) (sym one) ∙ e in
      let place : at + 1 ≡ suc at = omega arith in
      (ap (λ l. get_or l 0 0) split, ap (λ k. take m (drop k t)) place ∙ ap (drop 1) split)

  -- what of the text comes after it, and how many bytes it has
  abbrev Goes : ℕ → ℕ → Text → Type 0
  Goes at n rest = (k : ℕ) × (k ≤ n) × Front (at + k) × (take (n - k) (drop (at + k) t) ≡ rest)

  step_byte : (x : Bool) (b : ℕ) (rest : Text) (at n : ℕ) → (b == percent) ≡ x → b ≢ 0
      → take n (drop at t) ≡ (if x then percent ∷ percent ∷ [] else b ∷ []) ++ rest → at + n ≤ length t → Front at → Goes at n rest
  step_byte true b rest at zero is some e few h = absurd (omega (arith, ap length e))
  step_byte false b rest at zero is some e few h = absurd (omega (arith, ap length e))
  step_byte true b rest at (suc zero) is some e few h =
      let first = next_byte at zero percent (percent ∷ rest) few e in
      absurd (omega (arith, ap length first.1))
  step_byte true b rest at (suc (suc m)) is some e few h =
      let first = next_byte at (suc m) percent (percent ∷ rest) few e in
      let second = next_byte (at + 1) m percent rest (omega (arith, few)) first.1 in
      let two : at + 2 ≡ at + 1 + 1 = omega arith in
      let left : suc (suc m) - 2 ≡ m = omega arith in (
        2,
        omega arith,
        after_percent at (omega (arith, few)) first.0 second.0 h,
        ap₂ (λ (k j : ℕ). take k (drop j t)) left two ∙ second.1,
      )
  step_byte false b rest at (suc m) is some e few h =
      let byte = next_byte at m b rest few e in
      let other : b ≢ 37 = λ same. differs same is in
      let left : suc m - 1 ≡ m = omega arith in
      (1, omega arith, after_byte at b (omega (arith, few)) byte.0 other some h, ap (λ k. take k (drop (at + 1) t)) left ∙ byte.1)
    where
      differs : b ≡ 37 → (b == 37) ≡ false → ⊥
      differs same not = absurd (cc)

  run_passed : (items : List Item) (at n : ℕ) → AllByRecursion (IsPassed IsPercent) items → take n (drop at t) ≡ flat_map item_spelling items
      → at + n ≤ length t → Front at → Front (at + n)
  run_passed [] at n all e few h =
      let none : n ≡ 0 = omega (arith, ap length e, length-take-le n (drop at t) (omega (arith, few, length-drop at t))) in
      subst Front (omega (arith, none)) h
  run_passed (Byte b ∷ items) at n all e few h =
      let s = step_byte (b == percent) b (flat_map item_spelling items) at n refl all.0.0 e few h in
      subst Front (omega (arith, s.1)) (run_passed items (at + s.0) (n - s.0) all.1 s.3 (omega (arith, s.1, few)) s.2)
  run_passed (Directive d ∷ items) at n all e few h = absurd all.0.1

  pub walked : length t ≤ MAX_TEXT_LEN → (before after : Walk) → IsWalkOver t before → before.at ≤ length t → HasPassed IsPercent before after → Front before.at
      → IsWalkOver t after × (after.at ≤ length t) × Front after.at × (after.text.now ≡ t)
  walked short before after over low h front =
      let text_is : after.text.now ≡ t = h.text ∙ over.text_is ∙ take_all MAX_TEXT_LEN t short in
      let most : after.at ≤ max before.at (length t) = subst (λ u. after.at ≤ max before.at (length u)) text_is h.within in
      let within : after.at ≤ length t = omega (arith, most, low) in
      let n = after.at - before.at in
      let place : before.at + n ≡ after.at = omega (arith, h.from) in
      let run : take n (drop before.at t) ≡ flat_map item_spelling h.items =
      subst (λ u. take n (drop before.at u) ≡ flat_map item_spelling h.items) text_is h.run.whole in (
        record { walk_is = h.walk; text_is = h.text ∙ over.text_is },
        within,
        subst Front place (run_passed h.items before.at n h.run.passed run (omega (arith, place, within)) front),
        text_is,
      )
