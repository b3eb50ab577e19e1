-- The sign of a number.
use Rattle.std.proofs.Common.{◌≡◌, ℕ, ◌<◌, Bool, true, false, ◌++◌, length, replicate, refl, sym, ap, ◌∙◌, inl, inr}
use Rattle.std.specs.Prelude.{◌⊎◌}
use Rattle.pf_values.specs.meaning.Printing.{field_of}
use Rattle.pf_values.specs.meaning.Text.{Text, space, zero_digit}
use Rattle.pf_reduce.specs.declared.padding.Padding.{Padding}
use Rattle.pf_reduce.specs.declared.signs.Sign.{Sign}
use Rattle.pf_reduce.specs.declared.signs.Sign.TheVariants as signs
use Rattle.pf_reduce.specs.Padded.{with_padding}
use Rattle.pf_reduce.specs.Signs.{sign_text}
use Rattle.pf_reduce.proofs.Paddings.{space_in_field}

in_field : (w : ℕ) (negative : Bool) (number : Text) → length number < w
    → field_of false w (sign_text signs.Space negative ++ number) ≡ field_of false w (sign_text signs.None negative ++ number)
in_field w true number h = refl
in_field w false number h = space_in_field w number h

-- on the right, where the field has room for a sign, the flag space doesn't matter
pub space_or_none : (p : Padding) (negative : Bool) (number : Text) → p.left ≡ false → length number < p.width
    → with_padding p (sign_text signs.Space negative ++ number) ≡ with_padding p (sign_text signs.None negative ++ number)
space_or_none p negative number right room = rw right (ap (λ t. replicate p.spaces space ++ (replicate p.zeros zero_digit ++ (t ++ replicate p.trail space)))
    (in_field p.width negative number room))

-- so either may replace the other
pub space_for : (sign : Sign) (p : Padding) (negative : Bool) (number : Text) → (sign ≡ signs.Space) ⊎ (sign ≡ signs.None) → p.left ≡ false
    → length number < p.width → with_padding p (sign_text sign negative ++ number) ≡ with_padding p (sign_text signs.Space negative ++ number)
space_for sign p negative number (inl e) right room = rw e refl
space_for sign p negative number (inr e) right room = rw e (sym (space_or_none p negative number right room))

pub none_for : (sign : Sign) (p : Padding) (negative : Bool) (number : Text) → (sign ≡ signs.Space) ⊎ (sign ≡ signs.None) → p.left ≡ false
    → length number < p.width → with_padding p (sign_text sign negative ++ number) ≡ with_padding p (sign_text signs.None negative ++ number)
none_for sign p negative number is right room = space_for sign p negative number is right room ∙ space_or_none p negative number right room
