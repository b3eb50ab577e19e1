-- Numbers in a field that they can fill, and in none: the form is that of a normal directive.
use Rattle.std.proofs.Common.{◌≡◌, ℕ, ◌+◌, ◌<◌, ◌≤◌, Bool, true, false, None, refl, arith}
use Rattle.std.specs.Prelude.{IsTrue}
use Rattle.pf_values.specs.declared.bases.Alternative.{Alternative}
use Rattle.pf_values.specs.declared.conversions.Kind.{Kind}
use Rattle.pf_values.specs.declared.flags.Flag.TheVariants.{Alt, Minus, Zero}
use Rattle.pf_values.specs.declared.models.Model.{Model}
use Rattle.pf_values.specs.meaning.Conversions.{is_signed, is_text, kind_of, prints_signed, prints_text}
use Rattle.pf_values.specs.meaning.DataModel.{bits_under}
use Rattle.pf_values.specs.meaning.Flags.{has}
use Rattle.pf_values.specs.meaning.Normal.{HasNormalForm, HasUnsignedForm, IsNormalSigned, IsNormalUnprefixed, digits_at_most, precision_of, sign_len}
use Rattle.pf_values.specs.meaning.Specification.{Specification, width_of}
use Rattle.pf_reduce.specs.Changes.{HasPlainParts, IsMostPrinted}
use Rattle.pf_reduce.proofs.PaddedLemmas.{two_digits}

-- the form of a number, by its kind
unprefixed_under : (model : Model) (s : Specification) (a : Alternative) → has s.flags Alt ≡ false → IsNormalUnprefixed model s → HasUnsignedForm model a s
unprefixed_under model s a alt h = grind arith

pub unsigned_form : (model : Model) (s : Specification) (k : Kind) → prints_text k ≡ false → prints_signed k ≡ false → has s.flags Alt ≡ false
    → IsNormalUnprefixed model s → HasNormalForm model k s
unsigned_form model s k text signed alt h = grind (arith, unprefixed_under)

signed_form : (model : Model) (s : Specification) (k : Kind) → prints_signed k ≡ true → has s.flags Zero ≡ false → IsNormalSigned model s
    → HasNormalForm model k s
signed_form model s k signed unfilled h = grind arith

module _ (model : Model) (s : Specification) (parts : HasPlainParts s) (text : is_text s.conv ≡ false) (unfilled : has s.flags Zero ≡ false)
    (none : s.precision ≡ None) where
  one : precision_of s ≡ 1
  one = rw none refl

  no_sign : sign_len s ≡ 0
  no_sign = rw (parts.no_plus, parts.no_space) refl

  two : 2 ≤ digits_at_most model s
  two = two_digits s.conv (bits_under model s.length) text

  -- the width isn't 1, and it is given where the side is
  module _ (wide : 0 < width_of s → 1 < width_of s) (left : IsTrue (has s.flags Minus) → 0 < width_of s) where
    unsigned_normal : width_of s ≤ digits_at_most model s → IsNormalUnprefixed model s
    unsigned_normal few = record {
      not_filled = unfilled;
      precision = omega (arith, one, two);
      least = λ some. omega (arith, one, wide some);
      most = few;
      left = λ e. (left e, λ none. wide (left e));
    }

    signed_normal : width_of s ≤ 1 + digits_at_most model s → IsNormalSigned model s
    signed_normal few = record {
      one_sign = λ e. parts.no_space;
      least = λ some. omega (arith, one, no_sign, wide some);
      most = omega (arith, one, few);
      right_space = λ right e. absurd (let none = parts.no_space in cc);
      right_bare = λ right bare most. absurd (omega (arith, one, two, most));
      left = λ e. (left e, λ bare none. omega (arith, no_sign, wide (left e)));
    }

    field_form : (signed : Bool) → is_signed s.conv ≡ signed → (is_signed s.conv ≡ true → width_of s ≤ 1 + digits_at_most model s)
        → (is_signed s.conv ≡ false → width_of s ≤ digits_at_most model s) → HasNormalForm model (kind_of s.conv) s
    field_form true is few _ = signed_form model s (kind_of s.conv) is unfilled (signed_normal (few is))
    field_form false is _ few = unsigned_form model s (kind_of s.conv) text is parts.no_alt (unsigned_normal (few is))

  -- the width is missing
  pub bare_form : width_of s ≡ 0 → has s.flags Minus ≡ false → HasNormalForm model (kind_of s.conv) s
  bare_form bare right = field_form (λ some. absurd (omega (arith, bare, some))) (λ e. absurd (cc)) (is_signed s.conv) refl
      (λ e. omega (arith, bare)) (λ e. omega (arith, bare))

  -- the width is at most what the number can print
  pub filled_form : (most : ℕ) → IsMostPrinted model s most → 1 < width_of s → width_of s ≤ most → HasNormalForm model (kind_of s.conv) s
  filled_form most printed wide few = field_form (λ some. wide) (λ e. omega (arith, wide)) (is_signed s.conv) refl
      (λ e. omega (arith, few, printed.signed e)) (λ e. omega (arith, few, printed.unsigned e))
