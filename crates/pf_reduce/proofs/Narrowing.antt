-- The steps that narrow a field: each gives the padding that it leaves.
use Rattle.std.specs.Prelude.{◌⊎◌}
use Rattle.std.proofs.Common.{◌≡◌, ℕ, ◌+◌, ◌-◌, ◌<◌, ◌≤◌, min, Bool, true, false, ◌++◌, length, replicate, refl, ap, arith, inl, inr}
use Rattle.std.proofs.lemmas.Bool.{cases_lt}
use Rattle.pf_values.specs.meaning.Printing.{field_of}
use Rattle.pf_values.specs.meaning.Text.{Text, space, zero_digit}
use Rattle.pf_reduce.specs.declared.padding.Padding.{Padding}
use Rattle.pf_reduce.specs.Padded.{HasNoIdleWidth, IsNarrowedTo, HasHoistedZeros, IsRightIfUnseen}
use Rattle.pf_reduce.proofs.Paddings.{at_most_left, at_most_right, past, right_field}

-- a field with nothing around it
abbrev pub bare : Bool → ℕ → Padding
bare left width = record { spaces = 0; zeros = 0; width = width; left = left; trail = 0 }

pub cut_on_the_left : (w most : ℕ) → IsNarrowedTo (bare true w) most (record { spaces = 0; zeros = 0; width = min w most; left = true; trail = w - most })
cut_on_the_left w most = record { same = λ body few. at_most_left w most body few; constant = omega arith; left = refl; width = refl }

pub cut_on_the_right : (w most : ℕ) → IsNarrowedTo (bare false w) most (record { spaces = w - most; zeros = 0; width = min w most; left = false; trail = 0 })
cut_on_the_right w most = record { same = λ body few. at_most_right w most body few; constant = omega arith; left = refl; width = refl }

pub narrowed : (left : Bool) (w most : ℕ) → (q : Padding) × IsNarrowedTo (bare left w) most q
narrowed true w most = (record { spaces = 0; zeros = 0; width = min w most; left = true; trail = w - most }, cut_on_the_left w most)
narrowed false w most = (record { spaces = w - most; zeros = 0; width = min w most; left = false; trail = 0 }, cut_on_the_right w most)

idle_field : (left : Bool) (w : ℕ) (body : Text) → w ≤ length body → field_of left w body ≡ field_of left 0 body
idle_field true w body h = let e : w - length body ≡ 0 - length body = omega arith in ap (λ n. body ++ replicate n space) e
idle_field false w body h = let e : w - length body ≡ 0 - length body = omega arith in ap (λ n. replicate n space ++ body) e

pub no_width : (p : Padding) (least : ℕ) → p.width ≤ least → HasNoIdleWidth p least (record p { width = 0 })
no_width p least few = record {
  same = λ body h. ap (λ t. replicate p.spaces space ++ (replicate p.zeros zero_digit ++ (t ++ replicate p.trail space)))
      (idle_field p.left p.width body (omega (arith, few, h)));
  constant = refl;
  left = refl;
  idle = λ h. refl;
  kept = λ more. absurd (omega (arith, few, more));
}

pub without_idle : (p : Padding) (least : ℕ) → (q : Padding) × HasNoIdleWidth p least q
without_idle p least = elim (cases_lt least p.width) [
  | inl more ↦ (p, record { same = λ body h. refl; constant = refl; left = refl; idle = λ few. absurd (omega (arith, few, more)); kept = λ h. refl })
  | inr few ↦ (record p { width = 0 }, no_width p least few)
]

pub made_right : (p : Padding) (most : ℕ) → p.width ≤ most → IsRightIfUnseen p most (record p { left = false })
made_right p most few = record {
  same = λ body h. ap (λ t. replicate p.spaces space ++ (replicate p.zeros zero_digit ++ (t ++ replicate p.trail space)))
      (right_field p.left p.width body (h few));
  constant = refl;
  width = refl;
  wide = λ e. cc;
  right = λ more. absurd (omega (arith, few, more));
}

pub right_justify_if_unseen : (p : Padding) (most : ℕ) → (q : Padding) × IsRightIfUnseen p most q
right_justify_if_unseen p most = elim (cases_lt most p.width) [
  | inl more ↦ (p, record { same = λ body h. refl; constant = refl; width = refl; wide = λ e. (e, more); right = λ h. refl })
  | inr few ↦ (record p { left = false }, made_right p most few)
]

pub hoist_zeros : (p : Padding) (count : ℕ) → (p.left ≡ true) ⊎ (p.width ≡ 0) ⊎ (count ≡ 0)
    → HasHoistedZeros p count (record p { zeros = p.zeros + count; width = p.width - count })
hoist_zeros p count apart = record {
  same = λ body. past p.spaces p.zeros count p.left p.width body (replicate p.trail space) apart;
  constant = omega arith;
  left = refl;
  width = refl;
}

-- what is left of a width
pub not_wider : (p : Padding) (least : ℕ) (q : Padding) → HasNoIdleWidth p least q → (q.width ≤ p.width) × (0 < q.width → least < q.width)
not_wider p least q h = elim (cases_lt least p.width) [
  | inl more ↦ let e = h.kept more in (omega (arith, e), λ some. omega (arith, e, more))
  | inr few ↦ let e = h.idle few in (omega (arith, e), λ some. absurd (omega (arith, e, some)))
]
