-- Texts in a field, within constant padding. This project's own, except the field.
use Rattle.std.specs.Prelude.{◌≡◌, ℕ, ◌+◌, ◌-◌, ◌<◌, ◌≤◌, min, true, ◌++◌, ◌⊎◌, length, replicate}
use Rattle.pf_values.specs.declared.flags.Flag.TheVariants.{Minus}
use Rattle.pf_values.specs.meaning.Flags.{has}
use Rattle.pf_values.specs.meaning.Printing.{field_of}
use Rattle.pf_values.specs.meaning.Specification.{Specification, width_of}
use Rattle.pf_values.specs.meaning.Text.{Text, space, zero_digit}
use Rattle.pf_reduce.specs.declared.padding.Padding.{Padding}

-- spaces, zeros, the body in its field, and spaces
abbrev pub with_padding : Padding → Text → Text
with_padding p body =
    replicate p.spaces space
    ++ (replicate p.zeros zero_digit ++ (field_of p.left p.width body ++ replicate p.trail space))

-- the field of a directive (C11 7.21.6.1 p4), with nothing around it
abbrev pub padding_of : Specification → Padding
padding_of s =
    record { spaces = 0; zeros = 0; width = width_of s; left = has s.flags Minus; trail = 0 }

-- how many bytes are constant
abbrev pub constants : Padding → ℕ
constants p = p.spaces + (p.zeros + p.trail)

-- the side of a field makes no visible difference: the width is reached, or only spaces are printed
abbrev pub IsUnseen : ℕ → Text → Type 0
IsUnseen width body = (width ≤ length body) ⊎ (body ≡ replicate (length body) space)

-- If at most `most` bytes are printed, the spaces beyond are constant.
pub record IsNarrowedTo (p : Padding) (most : ℕ) (q : Padding) : Type 0 where
  pub same : (body : Text) → length body ≤ most → with_padding p body ≡ with_padding q body
  pub constant : constants q ≡ p.width - most
  pub left : q.left ≡ p.left
  pub width : q.width ≡ min p.width most

-- If at least `least` bytes are always printed, a width up to that has no effect.
pub record HasNoIdleWidth (p : Padding) (least : ℕ) (q : Padding) : Type 0 where
  pub same : (body : Text) → least ≤ length body → with_padding p body ≡ with_padding q body
  pub constant : constants q ≡ constants p
  pub left : q.left ≡ p.left
  pub idle : p.width ≤ least → q.width ≡ 0
  pub kept : least < p.width → q.width ≡ p.width

-- If `count` zeros are always printed first, they are constant.
pub record HasHoistedZeros (p : Padding) (count : ℕ) (q : Padding) : Type 0 where
  pub same : (body : Text)
      → with_padding p (replicate count zero_digit ++ body) ≡ with_padding q body
  pub constant : constants q ≡ constants p + count
  pub left : q.left ≡ p.left
  pub width : q.width ≡ p.width - count

-- It is right-justified if the width is at most `unseen`, where the side makes no visible difference.
pub record IsRightIfUnseen (p : Padding) (unseen : ℕ) (q : Padding) : Type 0 where
  pub same : (body : Text) → (p.width ≤ unseen → IsUnseen p.width body)
      → with_padding p body ≡ with_padding q body
  pub constant : constants q ≡ constants p
  pub width : q.width ≡ p.width
  pub wide : q.left ≡ true → (p.left ≡ true) × (unseen < p.width)
  pub right : unseen < p.width → q.left ≡ p.left
