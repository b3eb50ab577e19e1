-- Digits of a number, and one more.
use Rattle.std.proofs.Common.{◌≡◌, ℕ, ◌+◌, ◌-◌, ◌*◌, ◌^◌, ◌<◌, true, false, List, [], ◌∷◌, ◌++◌, map, length, sym, ap, ◌∙◌, arith, get_or, add-one}
use Rattle.std.specs.Fmt.{digit_glyph}
use Rattle.std.specs.List.{AllByRecursion}
use Rattle.std.proofs.Math.Nat.{pow-zero, pow-suc}
use Rattle.std.proofs.lemmas.Bool.Decides.{nat_tests}
use Rattle.std.proofs.lemmas.List.{length_push, map_push}
use Rattle.pf_values.specs.meaning.Digits.{AreDigits, AreLeastDigits, place_sum}
use Rattle.pf_text.specs.States.{is_digit}

pub first_above_zero : (n d : ℕ) (ds : List ℕ) → 0 < n → AreLeastDigits 10 1 n (d ∷ ds) → 0 < d
first_above_zero n d [] low h = let one = pow-zero 10 in omega (arith, h.digits.sum)
first_above_zero n d (e ∷ ds) low h = h.no_more (omega arith)

carried : (x q p b d : ℕ) → x * (q * b) + (p * b + d) ≡ (x * q + p) * b + d
carried x q p b d = grind arith

place_sum-push : (base : ℕ) (ds : List ℕ) (d : ℕ) → place_sum base (ds ++ d ∷ []) ≡ place_sum base ds * base + d
place_sum-push base [] d = let one = pow-zero base in rw one (omega arith)
place_sum-push base (x ∷ ds) d =
    let longer = length_push ds d in
    let rest = place_sum-push base ds d in
    rw (longer, rest, add-one, pow-suc) (carried x (base ^ length ds) (place_sum base ds) base d)

pub below-push : (ds : List ℕ) (d : ℕ) → AllByRecursion (λ x. x < 10) ds → d < 10 → AllByRecursion (λ x. x < 10) (ds ++ d ∷ [])
below-push [] d h small = (small, tt)
below-push (x ∷ ds) d h small = (h.0, below-push ds d h.1 small)

pub digits_push : (n d : ℕ) (ds : List ℕ) → d < 10 → AreDigits 10 n ds → AreDigits 10 (10 * n + d) (ds ++ d ∷ [])
digits_push n d ds small h = record { below = below-push ds d h.below small; sum = place_sum-push 10 ds d ∙ omega (arith, h.sum) }

first_push : (n d : ℕ) (ds : List ℕ) → 0 < n → AreLeastDigits 10 1 n ds → 1 < length (ds ++ d ∷ []) → 0 < get_or (ds ++ d ∷ []) 0 0
first_push n d [] some h l = absurd (omega (arith, h.enough))
first_push n d (x ∷ ds) some h l = first_above_zero n x ds some h

pub another_digit : (n d : ℕ) (ds : List ℕ) → 0 < n → d < 10 → AreLeastDigits 10 1 n ds → AreLeastDigits 10 1 (10 * n + d) (ds ++ d ∷ [])
another_digit n d ds some small h =
    record {
      digits = digits_push n d ds small h.digits;
      enough = omega (arith, length_push ds d);
      no_more = first_push n d ds some h;
    }

pub one_digit : (n : ℕ) → 0 < n → n < 10 → AreLeastDigits 10 1 n (n ∷ [])
one_digit n some small = let one = pow-zero 10 in record {
  digits = record { below = (small, tt); sum = omega arith };
  enough = omega arith;
  no_more = λ _. some;
}

pub digit_of : (byte : ℕ) → is_digit byte ≡ true → (byte - 48 < 10) × (digit_glyph false (byte - 48) ≡ byte)
digit_of byte h = (grind (arith, nat_tests), grind (arith, nat_tests))

pub glyph_push : (ds : List ℕ) (byte : ℕ) → is_digit byte ≡ true → map (digit_glyph false) ds ++ byte ∷ [] ≡ map (digit_glyph false) (ds ++ (byte - 48) ∷ [])
glyph_push ds byte d = let digit = digit_of byte d in ap (λ b. map (digit_glyph false) ds ++ b ∷ []) (sym digit.1)
    ∙ sym (map_push (digit_glyph false) ds (byte - 48))
