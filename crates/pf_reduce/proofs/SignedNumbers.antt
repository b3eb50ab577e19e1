-- Numbers with a sign.
use Rattle.std.proofs.Common.{◌≡◌, ◌≢◌, ℕ, zero, suc, ◌+◌, ◌≤◌, max, Bool, true, false, [], ◌++◌, length, refl, sym, ap, ◌∙◌, subst, arith, inl, inr, ℤ, pos}
use Rattle.std.proofs.Common.{negsuc}
use Rattle.std.specs.Prelude.{None, codes, nat_abs, ◌⊎◌, if◌then◌else◌}
use Rattle.std.proofs.lemmas.List.{length-append}
use Rattle.pf_values.specs.declared.conversions.Conv.TheVariants.{D}
use Rattle.pf_values.specs.declared.conversions.Kind.{Kind}
use Rattle.pf_values.specs.declared.conversions.Kind.TheVariants as kinds
use Rattle.pf_values.specs.declared.flags.Flag.TheVariants.{Alt, Minus, Plus, Space, Zero}
use Rattle.pf_values.specs.declared.flags.FlagSet.{FlagSet}
use Rattle.pf_values.specs.declared.limits.TheConstants.{MAX_NUMBER}
use Rattle.pf_values.specs.declared.models.Model.{Model}
use Rattle.pf_values.specs.meaning.Bases.{number_of, raises_precision}
use Rattle.pf_values.specs.meaning.Conversions.{
  alternative_under,
  base_of,
  base_under,
  has_capitals,
  is_octal,
  is_signed,
  is_text,
  is_upper,
  kind_of,
  prints_signed,
  prints_text,
}
use Rattle.pf_values.specs.meaning.DataModel.{bits_under}
use Rattle.pf_values.specs.meaning.Flags.{has, no_flags, with_flag}
use Rattle.pf_values.specs.meaning.Normal.{digits_at_most}
use Rattle.pf_values.specs.Directives.{effective_precision}
use Rattle.pf_values.specs.meaning.Printing.{
  front_under,
  is_negative,
  is_zero_filled,
  sign,
  sign_or_prefix,
}
use Rattle.pf_values.specs.meaning.Specification.{Specification, width_of}
use Rattle.pf_values.specs.meaning.Text.{Text}
use Rattle.pf_values.proofs.Counts.{count-ge, count-le}
use Rattle.pf_values.proofs.NumberTexts.{number_text}
use Rattle.pf_values.proofs.Printed.{count_of, natural_of, zero_digits}
use Rattle.pf_values.proofs.PrintsOnce.{value_text}
use Rattle.pf_reduce.specs.declared.padding.Padding.{Padding}
use Rattle.pf_reduce.specs.declared.signs.Sign.{Sign}
use Rattle.pf_reduce.specs.declared.signs.Sign.TheVariants as signs
use Rattle.pf_reduce.specs.Cores.{padded_core, core_of_parts, with_side, kept_precision}
use Rattle.pf_reduce.specs.Padded.{IsUnseen, constants, with_padding, padding_of}
use Rattle.pf_reduce.specs.Reducing.{IsNormalCore, IsReducedTo}
use Rattle.pf_reduce.specs.Signs.{sign_flags, sign_length, sign_of, sign_text, unseen_signed_width}
use Rattle.pf_reduce.proofs.CarriedIntegers.{integer_reduced, kept_kind, kept_sign, width_is}
use Rattle.pf_reduce.proofs.UnprefixedNumbers.{
  digits_text,
  length-digits_text,
  natural_is,
  same_digits,
}
use Rattle.pf_reduce.proofs.Precisions.{PrintsLike, core_text, effective, filled_right, same_filled}

-- a sign, and the digits
abbrev pub signed_text : Sign → ℕ → ℤ → Text
signed_text sign precision v = sign_text sign (is_negative v) ++ digits_text D precision (nat_abs v)

signed_kind : (k : Kind) → prints_signed k ≡ true → k ≡ kinds.Signed
signed_kind k e = grind arith

sign_under : (negative plus spaced : Bool) → (if negative then codes "-" else (if plus then codes "+" else (if spaced then codes " " else [])))
    ≡ sign_text (if plus then signs.Plus else (if spaced then signs.Space else signs.None)) negative
sign_under negative plus spaced = grind arith

sign-is : (s : Specification) (v : ℤ) → sign s v ≡ sign_text (sign_of s.flags) (is_negative v)
sign-is s v = sign_under (is_negative v) (has s.flags Plus) (has s.flags Space)

front-is : (s : Specification) (v : ℤ) → is_signed s.conv ≡ true
    → sign_or_prefix s v ≡ sign_text (sign_of s.flags) (is_negative v)
front-is s v signed =
    ap (λ k. front_under k s v) (signed_kind (kind_of s.conv) signed) ∙ sign-is s v

natural_signed : (s : Specification) (n : ℕ) → is_signed s.conv ≡ true
    → natural_of s n ≡ count_of (base_of s.conv) n
natural_signed s n signed =
    let k = signed_kind (kind_of s.conv) signed in
    let raised : is_octal s.conv ≡ false = ap (λ k. raises_precision (alternative_under k)) k in
    natural_is s.conv (has s.flags Alt) n (rw raised refl)

number_text-signed : (s : Specification) (precision : ℕ) (v : ℤ) → is_signed s.conv ≡ true
    → number_text s precision v ≡ signed_text (sign_of s.flags) precision v
number_text-signed s precision v signed =
    let n = nat_abs v in
    let natural = natural_signed s n signed in
    let digits = same_digits s.conv D precision n (signed_kind (kind_of s.conv) signed) in
    ap (λ k. sign_or_prefix s v ++ zero_digits (base_of s.conv) (is_upper s.conv) k n) (omega arith)
    ∙ ap (λ t. sign_or_prefix s v ++ t) digits
    ∙ ap (λ t. t ++ digits_text D precision n) (front-is s v signed)

sign_some : (sign : Sign) (negative : Bool) → 1 ≤ sign_length sign → length (sign_text sign negative) ≡ sign_length sign
sign_some sign negative h = grind arith

-- each number has the sign's length, or the field has no room for zeros
zeros_by_precision : (s : Specification) (v : ℤ) → is_signed s.conv ≡ true → (1 ≤ sign_length (sign_of s.flags)) ⊎ (width_of s ≤ 1)
    → (length (sign_or_prefix s v) ≡ sign_length (sign_of s.flags)) ⊎ (width_of s ≤ 1)
zeros_by_precision s v signed h = grind (arith, front-is, sign_some)

signed_value : (s : Specification) (v : ℤ) → is_signed s.conv ≡ true → (is_zero_filled s ≡ true → (1 ≤ sign_length (sign_of s.flags)) ⊎ (width_of s ≤ 1))
    → value_text s v ≡ signed_text (sign_of s.flags) (effective_precision s (sign_length (sign_of s.flags))) v
signed_value s v signed h = effective s v _ (λ filled. zeros_by_precision s v signed (h filled)) ∙ number_text-signed s _ v signed

sign_kept : (left : Bool) (sign : Sign) → sign_of (with_side left (sign_flags sign)) ≡ sign
sign_kept left sign = grind arith

no_other_flag : (sign : Sign) → (has (sign_flags sign) Zero ≡ false) × (has (sign_flags sign) Minus ≡ false)
no_other_flag sign = grind arith

no_sign : (sign : Sign) → sign_length sign ≡ 0 → sign ≡ signs.None
no_sign sign none = grind arith

module _ (model : Model) (s : Specification) (signed : is_signed s.conv ≡ true) where
  pub signed_reduced : (p : Padding) (sign : Sign) (precision : ℕ) → (is_zero_filled s ≡ true → (1 ≤ sign_length (sign_of s.flags)) ⊎ (width_of s ≤ 1))
      → precision ≡ effective_precision s (sign_length (sign_of s.flags))
      → IsNormalCore model (padded_core model s p (sign_flags sign) (kept_precision precision)).core → constants p ≤ MAX_NUMBER
      → ((v : ℤ) → count_of 10 (nat_abs v) ≤ digits_at_most model s
      → with_padding (padding_of s) (signed_text (sign_of s.flags) precision v) ≡ with_padding p (signed_text sign precision v))
      → IsReducedTo model s (padded_core model s p (sign_flags sign) (kept_precision precision))
  signed_reduced p sign precision narrow p_is normal few same =
      let t : Specification = core_of_parts model s p (sign_flags sign) (kept_precision precision) in
      let k = signed_kind (kind_of s.conv) signed in
      let text : is_text s.conv ≡ false = ap prints_text k in
      let flags = no_other_flag sign in
      integer_reduced model s p (sign_flags sign) (kept_precision precision) text flags.1 normal few (λ v fits.
      let core : value_text t v ≡ signed_text sign precision v =
      core_text model s p (sign_flags sign) precision v flags.0 ∙ number_text-signed t precision v (kept_sign s.conv ∙ signed)
      ∙ ap (λ u. signed_text u precision v) (sign_kept p.left sign) in
      let count : count_of 10 (nat_abs v) ≤ digits_at_most model s =
      subst (λ k. count_of (number_of (base_under k)) (nat_abs v) ≤ digits_at_most model s) k (count-le s.conv (bits_under model s.length) text v fits) in
      ap (with_padding (padding_of s)) (signed_value s v signed narrow ∙ ap (λ k. signed_text (sign_of s.flags) k v) (sym p_is)) ∙ same v count
      ∙ ap (with_padding p) (sym core))

  -- zeros up to the width, which stay
  pub signed_filled : is_zero_filled s ≡ true → sign_length (sign_of s.flags) ≡ 0
      → (let flags = with_flag no_flags Zero in IsNormalCore model (padded_core model s (padding_of s) flags None).core
      → IsReducedTo model s (padded_core model s (padding_of s) flags None))
  signed_filled all none normal =
      let flags : FlagSet = with_flag no_flags Zero in
      let t : Specification = core_of_parts model s (padding_of s) flags None in
      let right = filled_right s all in
      let text : is_text s.conv ≡ false = ap prints_text (signed_kind (kind_of s.conv) signed) in
      let same = kept_kind s.conv in
      let signed_core : is_signed t.conv ≡ true = kept_sign s.conv ∙ signed in
      integer_reduced model s (padding_of s) flags None text refl normal (omega arith) (λ v fits.
      let front : sign_or_prefix t v ≡ sign_or_prefix s v =
      front-is t v signed_core ∙ ap (λ u. sign_text u (is_negative v)) (rw right refl ∙ sym (no_sign (sign_of s.flags) none)) ∙ sym (front-is s v signed) in
      let base : base_of t.conv ≡ base_of s.conv = ap (λ k. number_of (base_under k)) same in
      let natural : natural_of t (nat_abs v) ≡ natural_of s (nat_abs v) =
      natural_signed t (nat_abs v) signed_core ∙ ap (λ b. count_of b (nat_abs v)) base ∙ sym (natural_signed s (nat_abs v) signed) in
      let like : PrintsLike s t v = record { base = base; upper = ap has_capitals same; natural = natural; front = front } in
      ap (with_padding (padding_of s)) (sym (same_filled s t v like (width_is (width_of s)) all (rw right refl))))

sign_lengths : (sign : Sign) (negative : Bool) → (sign_length sign ≤ length (sign_text sign negative)) × (length (sign_text sign negative) ≤ 1)
sign_lengths sign negative = grind arith

-- how long a signed number is
pub signed_least : (sign : Sign) (precision : ℕ) (v : ℤ) → sign_length sign + precision ≤ length (signed_text sign precision v)
signed_least sign precision v =
    let whole = length-append (sign_text sign (is_negative v)) (digits_text D precision (nat_abs v)) in
    let len = length-digits_text D precision (nat_abs v) in
    let sizes = sign_lengths sign (is_negative v) in
    omega (arith, sizes.0)

pub signed_most : (sign : Sign) (precision digits : ℕ) (v : ℤ) → count_of 10 (nat_abs v) ≤ digits
    → length (signed_text sign precision v) ≤ 1 + max precision digits
signed_most sign precision digits v h =
    let whole = length-append (sign_text sign (is_negative v)) (digits_text D precision (nat_abs v)) in
    let len = length-digits_text D precision (nat_abs v) in
    let sizes = sign_lengths sign (is_negative v) in
    omega (arith, sizes.1)

longer : (sign : Sign) (v : ℤ) → 1 ≤ nat_abs v → sign_length sign + 1 ≤ length (signed_text sign 0 v)
longer sign v h =
    let some = count-ge 10 (nat_abs v) (omega arith) h in
    let whole = length-append (sign_text sign (is_negative v)) (digits_text D 0 (nat_abs v)) in
    let len = length-digits_text D 0 (nat_abs v) in
    let sizes = sign_lengths sign (is_negative v) in
    omega (arith, sizes.0)

-- with precision 0 the side isn't seen, unless there is a `+`, up to a width of one byte next to the
-- sign
unseen_at_0 : (sign : Sign) (w : ℕ) (v : ℤ) → sign ≢ signs.Plus → w ≤ sign_length sign + 1 → IsUnseen w (signed_text sign 0 v)
unseen_at_0 signs.None w (pos zero) e h = inr refl
unseen_at_0 signs.Space w (pos zero) e h = inr refl
unseen_at_0 signs.Plus w (pos zero) e h = absurd (e refl)
unseen_at_0 sign w (pos (suc k)) e h = let some = longer sign (pos (suc k)) (omega arith) in inl (omega arith)
unseen_at_0 sign w (negsuc k) e h = let some = longer sign (negsuc k) (omega arith) in inl (omega arith)

pub unseen_signed_side : (sign : Sign) (w precision : ℕ) (v : ℤ) → w ≤ unseen_signed_width precision sign → IsUnseen w (signed_text sign precision v)
unseen_signed_side sign w precision v h = grind (arith, unseen_at_0)
