-- The precision with which a directive prints, and with which a core does.
use Rattle.std.proofs.Common.{◌≡◌, ℕ, ◌-◌, ◌≤◌, max, Bool, true, false, ◌++◌, length, refl, sym, ap, ◌∙◌, arith, inl, inr, ℤ}
use Rattle.std.specs.Prelude.{nat_abs, not, ◌&&◌, ◌⊎◌, if◌then◌else◌, unwrap_or}
use Rattle.std.proofs.lemmas.Bool.Decides.{nat_tests}
use Rattle.pf_values.specs.declared.flags.Flag.TheVariants.{Alt, Minus, Zero}
use Rattle.pf_values.specs.declared.flags.FlagSet.{FlagSet}
use Rattle.pf_values.specs.declared.models.Model.{Model}
use Rattle.pf_values.specs.meaning.Conversions.{base_of, is_upper}
use Rattle.pf_values.specs.meaning.Flags.{has, no_flags, with_flag}
use Rattle.pf_values.specs.Directives.{effective_precision}
use Rattle.pf_values.specs.meaning.Normal.{precision_of}
use Rattle.pf_values.specs.meaning.Printing.{is_zero_filled, sign_or_prefix}
use Rattle.pf_values.specs.meaning.Specification.{Specification, width_of}
use Rattle.pf_values.proofs.NumberTexts.{number_text, value_text-is, value_text-unfilled}
use Rattle.pf_values.proofs.Printed.{count_of, filled_precision, natural_of, precision_under, zero_digits}
use Rattle.pf_values.proofs.PrintsOnce.{value_text}
use Rattle.pf_reduce.specs.declared.padding.Padding.{Padding}
use Rattle.pf_reduce.specs.Cores.{core_of_parts, with_side, kept_precision}

-- what the flag `0` makes of the width: as many zeros, where the sign or prefix has the length
filled_max : (w f sign natural : ℕ) → (f ≡ sign) ⊎ (w ≤ 1) → max (filled_precision w f natural) natural ≡ max (max (w - sign) 1) natural
filled_max w f sign natural (inl e) = grind (arith, nat_tests)
filled_max w f sign natural (inr h) = grind (arith, nat_tests)

effective_under : (b : Bool) (s : Specification) (v : ℤ) (sign : ℕ) → (b ≡ true → (length (sign_or_prefix s v) ≡ sign) ⊎ (width_of s ≤ 1))
    → number_text s (precision_under b s v) v ≡ number_text s (if b then max (width_of s - sign) 1 else precision_of s) v
effective_under true s v sign h =
    ap (λ m. sign_or_prefix s v ++ zero_digits (base_of s.conv) (is_upper s.conv) (m - count_of (base_of s.conv) (nat_abs v)) (nat_abs v))
    (filled_max (width_of s) (length (sign_or_prefix s v)) sign (natural_of s (nat_abs v)) (h refl))
effective_under false s v sign h = refl

pub effective : (s : Specification) (v : ℤ) (sign : ℕ) → (is_zero_filled s ≡ true → (length (sign_or_prefix s v) ≡ sign) ⊎ (width_of s ≤ 1))
    → value_text s v ≡ number_text s (effective_precision s sign) v
effective s v sign h = value_text-is s v ∙ effective_under (is_zero_filled s) s v sign h

pub written_is : (p : ℕ) → unwrap_or (kept_precision p) 1 ≡ p
written_is p = grind arith

unfilled : (left : Bool) (flags : FlagSet) (b : Bool) → has flags Zero ≡ false
    → (has (with_side left flags) Zero && not (has (with_side left flags) Minus) && b) ≡ false
unfilled true flags b h = rw h refl
unfilled false flags b h = rw h refl

pub core_text : (model : Model) (s : Specification) (p : Padding) (flags : FlagSet) (precision : ℕ) (v : ℤ) → has flags Zero ≡ false
    → let t : Specification = core_of_parts model s p flags (kept_precision precision) in value_text t v ≡ number_text t precision v
core_text model s p flags precision v h =
    let t : Specification = core_of_parts model s p flags (kept_precision precision) in
    value_text-unfilled t v (unfilled p.left flags _ h) ∙ ap (λ k. number_text t k v) (written_is precision)

-- one base, and one sign or prefix
pub record PrintsLike (s t : Specification) (v : ℤ) : Type 0 where
  pub base : base_of t.conv ≡ base_of s.conv
  pub upper : is_upper t.conv ≡ is_upper s.conv
  pub natural : natural_of t (nat_abs v) ≡ natural_of s (nat_abs v)
  pub front : sign_or_prefix t v ≡ sign_or_prefix s v

pub same_number : (s t : Specification) (precision : ℕ) (v : ℤ) → PrintsLike s t v → number_text t precision v ≡ number_text s precision v
same_number s t precision v h = rw (h.natural, h.front, h.base, h.upper) refl

filled_text : (s : Specification) (v : ℤ) → is_zero_filled s ≡ true
    → value_text s v ≡ number_text s (filled_precision (width_of s) (length (sign_or_prefix s v)) (natural_of s (nat_abs v))) v
filled_text s v h = value_text-is s v ∙ ap (λ p. number_text s p v) (rw h refl)

-- both filled with zeros, up to one width
pub same_filled : (s t : Specification) (v : ℤ) → PrintsLike s t v → width_of t ≡ width_of s → is_zero_filled s ≡ true → is_zero_filled t ≡ true
    → value_text t v ≡ value_text s v
same_filled s t v h width all all_t =
    filled_text t v all_t
    ∙ same_number s t _ v h
    ∙ ap (λ p. number_text s p v) (rw (h.natural, h.front, width) refl)
    ∙ sym (filled_text s v all)

right_of : (a b c : Bool) → (a && not b && c) ≡ true → b ≡ false
right_of a b c h = grind arith

-- a directive that is filled with zeros is right-justified
pub filled_right : (s : Specification) → is_zero_filled s ≡ true → has s.flags Minus ≡ false
filled_right s h = right_of (has s.flags Zero) (has s.flags Minus) _ h

pub alt_kept : (left : Bool) → has (with_side left (with_flag no_flags Alt)) Alt ≡ true
alt_kept left = grind arith
