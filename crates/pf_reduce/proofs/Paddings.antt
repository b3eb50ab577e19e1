-- Texts in a field within constant padding, by the numbers of spaces.
use Rattle.std.proofs.Common.{◌≡◌, ℕ, zero, suc, ◌+◌, ◌-◌, ◌<◌, ◌≤◌, min, Bool, true, false, ◌∷◌, ◌++◌, length, replicate, refl, sym, ap, ◌∙◌, append_assoc}
use Rattle.std.proofs.Common.{arith, inl, inr}
use Rattle.std.specs.Prelude.{if◌then◌else◌, ◌⊎◌}
use Rattle.std.proofs.lemmas.List.{replicate-append-replicate, length-replicate, length-append, append-nil}
use Rattle.pf_values.specs.meaning.Printing.{field_of, padding}
use Rattle.pf_values.specs.meaning.Text.{Text, space, zero_digit}
use Rattle.pf_reduce.specs.Padded.{IsUnseen}

-- a text in a field, within spaces
abbrev in_field : ℕ → Bool → ℕ → ℕ → Text → Text
in_field spaces left width trail body = replicate spaces space ++ (field_of left width body ++ replicate trail space)

-- how many spaces come before a body of this length, and after
abbrev before : ℕ → Bool → ℕ → ℕ → ℕ
before spaces left width len = spaces + (if left then 0 else width - len)

abbrev after : Bool → ℕ → ℕ → ℕ → ℕ
after left width trail len = (if left then width - len else 0) + trail

abbrev between : ℕ → Text → ℕ → Text
between spaces inner trail = replicate spaces space ++ (inner ++ replicate trail space)

in_field-between : (a : ℕ) (left : Bool) (w b : ℕ) (body : Text)
    → in_field a left w b body ≡ between (before a left w (length body)) body (after left w b (length body))
in_field-between a true w b body =
    ap (λ t. replicate a space ++ t) (append_assoc body (padding w body) (replicate b space)
    ∙ ap (λ t. body ++ t) (replicate-append-replicate (w - length body) b space))
    ∙ ap (λ n. between n body ((w - length body) + b)) (omega arith)
in_field-between a false w b body =
    ap (λ t. replicate a space ++ t) (append_assoc (padding w body) body (replicate b space))
    ∙ sym (append_assoc (replicate a space) (padding w body) _)
    ∙ ap (λ t. t ++ (body ++ replicate b space)) (replicate-append-replicate a (w - length body) space)
    ∙ ap (λ n. between (a + (w - length body)) body n) (omega arith)

-- as many spaces before and after
same_padding : (a c : ℕ) (l m : Bool) (w v b d : ℕ) (body : Text) → before a l w (length body) ≡ before c m v (length body)
    → after l w b (length body) ≡ after m v d (length body) → in_field a l w b body ≡ in_field c m v d body
same_padding a c l m w v b d body e f = in_field-between a l w b body ∙ ap (λ n. between n body (after l w b (length body))) e
    ∙ ap (λ n. between (before c m v (length body)) body n) f ∙ sym (in_field-between c m v d body)

-- spaces beyond the most bytes leave the field, to the right
pub at_most_right : (w most : ℕ) (body : Text) → length body ≤ most → in_field 0 false w 0 body ≡ in_field (w - most) false (min w most) 0 body
at_most_right w most body h = same_padding 0 (w - most) false false w (min w most) 0 0 body (omega arith) refl

pub at_most_left : (w most : ℕ) (body : Text) → length body ≤ most → in_field 0 true w 0 body ≡ in_field 0 true (min w most) (w - most) body
at_most_left w most body h = same_padding 0 0 true true w (min w most) 0 (w - most) body refl (omega arith)

-- where the width is reached, or only spaces are printed, the side isn't seen
pub right_field : (left : Bool) (w : ℕ) (body : Text) → IsUnseen w body → field_of left w body ≡ field_of false w body
right_field false w body h = refl
right_field true w body (inl h) = let none : w - length body ≡ 0 = omega arith in rw none (append-nil body)
right_field true w body (inr e) =
    let n = w - length body in
    ap (λ t. t ++ replicate n space) e
    ∙ replicate-append-replicate (length body) n space ∙ ap (λ k. replicate k space) (omega arith) ∙ sym (replicate-append-replicate n (length body) space)
    ∙ ap (λ t. replicate n space ++ t) (sym e)

-- zeros that come first leave the field
past_field : (left : Bool) (w k : ℕ) (body : Text) → (left ≡ true) ⊎ (w ≡ 0) ⊎ (k ≡ 0)
    → field_of left w (replicate k zero_digit ++ body) ≡ replicate k zero_digit ++ field_of left (w - k) body
past_field true w k body h =
    let e : w - length (replicate k zero_digit ++ body) ≡ w - k - length body = omega
    (arith, length-append (replicate k zero_digit) body, length-replicate {A = ℕ} k zero_digit) in
    rw e (append_assoc (replicate k zero_digit) body _)
past_field false w k body (inl e) = cc
past_field false w k body (inr (inl e)) =
    let a : w - length (replicate k zero_digit ++ body) ≡ 0 = omega arith in
    let b : w - k - length body ≡ 0 = omega arith in
    rw (a, b) refl
past_field false w k body (inr (inr e)) = let f : w - 0 ≡ w = omega arith in rw (e, f) refl

pub past : (spaces zeros k : ℕ) (left : Bool) (w : ℕ) (body tail : Text) → (left ≡ true) ⊎ (w ≡ 0) ⊎ (k ≡ 0)
    → replicate spaces space ++ (replicate zeros zero_digit ++ (field_of left w (replicate k zero_digit ++ body) ++ tail)) ≡ replicate spaces space ++
    (replicate (zeros + k) zero_digit ++ (field_of left (w - k) body ++ tail))
past spaces zeros k left w body tail h =
    ap (λ t. replicate spaces space ++ (replicate zeros zero_digit ++ (t ++ tail))) (past_field left w k body h)
    ∙ ap (λ t. replicate spaces space ++ (replicate zeros zero_digit ++ t)) (append_assoc (replicate k zero_digit) _ _)
    ∙ ap (λ t. replicate spaces space ++ t) (sym (append_assoc (replicate zeros zero_digit) (replicate k zero_digit) _)
    ∙ ap (λ t. t ++ (field_of left (w - k) body ++ tail)) (replicate-append-replicate zeros k zero_digit))

-- On the right, where a space is left in the field, it may as well be a part of what is printed.
space_last : (k : ℕ) (body : Text) → replicate k space ++ (space ∷ body) ≡ space ∷ (replicate k space ++ body)
space_last zero body = refl
space_last (suc k) body = ap (λ t. space ∷ t) (space_last k body)

pub space_in_field : (w : ℕ) (body : Text) → length body < w → field_of false w (space ∷ body) ≡ field_of false w body
space_in_field w body h =
    let e : w - length body ≡ suc (w - length (space ∷ body)) = omega arith in
    space_last (w - length (space ∷ body)) body ∙ ap (λ k. replicate k space ++ body) (sym e)
