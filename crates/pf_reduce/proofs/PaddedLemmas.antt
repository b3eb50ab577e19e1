-- Numbers in a field that is wider than what they print: the spaces beyond are constant.
use Rattle.std.proofs.Common.{◌≡◌, ℕ, zero, suc, ◌+◌, ◌-◌, ◌<◌, ◌≤◌, max, min, Bool, true, false, Some, None, refl, sym, ap, ◌∙◌, subst, arith}
use Rattle.std.specs.Prelude.{if◌then◌else◌}
use Rattle.pf_values.specs.declared.conversions.Conv.{Conv}
use Rattle.pf_values.specs.declared.flags.Flag.TheVariants.{Minus, Zero}
use Rattle.pf_values.specs.declared.models.Model.{Model}
use Rattle.pf_values.specs.meaning.Conversions.{is_signed, is_text}
use Rattle.pf_values.specs.meaning.DataModel.{Bits, bits_under, most_digits}
use Rattle.pf_values.specs.meaning.Flags.{has, no_flags}
use Rattle.pf_values.specs.meaning.Normal.{IsNormal, digits_at_most, sign_len}
use Rattle.pf_values.specs.meaning.Printing.{is_zero_filled}
use Rattle.pf_values.specs.meaning.Specification.{Specification, width_of}
use Rattle.pf_values.specs.Directives.{effective_precision, width_given}
use Rattle.pf_reduce.specs.declared.padding.Padding.{Padding}
use Rattle.pf_reduce.specs.declared.signs.Sign.TheVariants as signs
use Rattle.pf_reduce.specs.Changes.{HasPlainParts, IsMostPrinted, within_spaces}
use Rattle.pf_reduce.specs.Cores.{IsReducedAs, padded_core, with_side}
use Rattle.pf_reduce.specs.Padded.{HasNoIdleWidth, IsNarrowedTo, IsRightIfUnseen, padding_of}
use Rattle.pf_reduce.specs.Reducing.{IsReduction}
use Rattle.pf_reduce.proofs.Narrowing.{cut_on_the_left, cut_on_the_right}
use Rattle.pf_reduce.proofs.OwnCores.{on_side, signed_form, unprefixed_form}
use Rattle.pf_reduce.proofs.SignedReductions.{signed_by}
use Rattle.pf_reduce.proofs.UnsignedReductions.{unprefixed_by}

-- each number has two digits
pub two_digits : (conv : Conv) (b : Bits) → is_text conv ≡ false → 2 ≤ most_digits conv b
two_digits conv b text = grind arith

given_is : (n : ℕ) → 0 < n → width_given (Some n) ≡ Some n
given_is zero some = absurd (omega (arith, some))
given_is (suc n) some = refl

-- a field of this width on a side, within what is beyond it
abbrev cut : Bool → ℕ → ℕ → Padding
cut left width most = record {
  spaces = if left then 0 else width - most;
  zeros = 0;
  width = min width most;
  left = left;
  trail = if left then width - most else 0;
}

cut_is : (left : Bool) (width most : ℕ) → IsNarrowedTo (record { spaces = 0; zeros = 0; width = width; left = left; trail = 0 }) most (cut left width most)
cut_is true width most = cut_on_the_left width most
cut_is false width most = cut_on_the_right width most

module _ (model : Model) (s : Specification) (parts : HasPlainParts s) (text : is_text s.conv ≡ false) (unfilled : has s.flags Zero ≡ false)
    (none : s.precision ≡ None) (most : ℕ) (wide : most < width_of s) where
  abbrev field : Padding
  field = cut (has s.flags Minus) (width_of s) most

  width_is : field.width ≡ most
  width_is = omega (arith, wide)

  kept_width : (least : ℕ) → least < most → HasNoIdleWidth field least field
  kept_width least less = record {
    same = λ body some. refl;
    constant = refl;
    left = refl;
    idle = λ few. absurd
        (omega (arith, few, less, width_is));
    kept = λ more. refl;
  }

  seen : (unseen : ℕ) → unseen < most → IsRightIfUnseen field unseen field
  seen unseen less = record { same = λ body h. refl; constant = refl; width = refl; wide = λ e. (e, omega (arith, less, width_is)); right = λ h. refl }

  one : effective_precision s 0 ≡ 1
  one = rw (unfilled, none) refl

  pub flags_are : with_side (has s.flags Minus) no_flags ≡ s.flags
  flags_are = on_side _ no_flags s.flags refl refl (sym parts.no_plus) (sym parts.no_space) (sym parts.no_alt) (sym unfilled) (sym parts.no_group)

  core_is : 0 < most → padded_core model s field no_flags None ≡ within_spaces model s most
  core_is some = rw (flags_are, width_is, given_is most some, none) refl

  two : 2 ≤ digits_at_most model s
  two = two_digits s.conv (bits_under model s.length) text

  signed_padded : is_signed s.conv ≡ true → most ≡ 1 + digits_at_most model s → IsReducedAs model s field no_flags None
  signed_padded signed most_is =
      let full : most ≡ 1 + max 1 (digits_at_most model s) = omega (arith, most_is, two) in
      signed_by model s parts.defined signed signs.None signs.None 1 (digits_at_most model s) field field field field (rw (parts.no_plus, parts.no_space) refl)
      (λ e. absurd (let filled : is_zero_filled s ≡ false = rw unfilled refl in cc)) (sym one) refl
      (subst (λ n. IsNarrowedTo (padding_of s) n field) full (cut_is (has s.flags Minus) (width_of s) most)) (kept_width 1 (omega (arith, most_is, two)))
      (record { same = λ negative number few. refl; space = λ r w e. absurd (cc); none = λ r w e. omega (arith, two); kept = λ spaced bare. refl })
      (kept_width 1 (omega (arith, most_is, two))) (seen 0 (omega (arith, most_is)))

  unsigned_padded : is_signed s.conv ≡ false → most ≡ digits_at_most model s → IsReducedAs model s field no_flags None
  unsigned_padded unsigned most_is =
      let full : most ≡ max 1 (digits_at_most model s) = omega (arith, most_is, two) in
      unprefixed_by model s parts.defined text unsigned parts.no_alt 1 (digits_at_most model s) 0 field field field field (sym one) refl
      (omega (arith, two)) (subst (λ n. IsNarrowedTo (padding_of s) n field) full (cut_is (has s.flags Minus) (width_of s) most))
      (kept_width 1 (omega (arith, most_is, two)))
      (record { same = λ body. refl; constant = omega arith; left = refl; width = omega arith }) (seen 1 (omega (arith, most_is, two)))

  no_sign : sign_len s ≡ 0
  no_sign = rw (parts.no_plus, parts.no_space) refl

  -- so a normal directive has no such field
  signed_other : is_signed s.conv ≡ true → most ≡ 1 + digits_at_most model s → IsNormal model s → ⊥
  signed_other signed most_is h =
      let forms = signed_form model s 0 h signed (sym no_sign) (λ e. absurd (let filled : is_zero_filled s ≡ false = rw unfilled refl in cc)) in
      let few : width_of s ≤ 1 + max 1 (digits_at_most model s) = rw none at forms.0.most in
      omega (arith, few, most_is, two, wide)

  unsigned_other : is_signed s.conv ≡ false → most ≡ digits_at_most model s → IsNormal model s → ⊥
  unsigned_other unsigned most_is h =
      let few = (unprefixed_form model s h text unsigned parts.no_alt).most in
      omega (arith, few, most_is, wide)

  module _ (printed : IsMostPrinted model s most) where
    by_sign : (signed : Bool) → is_signed s.conv ≡ signed → IsReducedAs model s field no_flags None × (0 < most) × (IsNormal model s → ⊥)
    by_sign true is = (signed_padded is (printed.signed is), omega (arith, printed.signed is), signed_other is (printed.signed is))
    by_sign false is = (unsigned_padded is (printed.unsigned is), omega (arith, printed.unsigned is, two), unsigned_other is (printed.unsigned is))

    pub padded_change : (0 < most) × IsReduction model s (within_spaces model s most)
    padded_change =
        let by = by_sign (is_signed s.conv) refl in (
          by.1,
          record {
            same = rw (core_is by.1) at by.0.reduced;
            kept = λ h. absurd (by.2 h);
            silent = λ is. absurd (let other : false ≡ true = sym text ∙ ap (λ d. is_text d.conv) is in cc);
          },
        )
