-- Numbers with a prefix.
use Rattle.std.proofs.Common.{◌≡◌, ℕ, zero, suc, ◌+◌, ◌≤◌, max, Bool, true, false, [], ◌++◌, length, refl, sym, ap, ◌∙◌, arith, inl, inr, ℤ}
use Rattle.std.specs.Prelude.{None, nat_abs, not, ◌&&◌, ◌⊎◌, if◌then◌else◌}
use Rattle.std.proofs.lemmas.List.{length-append}
use Rattle.pf_values.specs.declared.bases.Alternative.TheVariants.{Prefixed}
use Rattle.pf_values.specs.declared.bases.Base.{Base}
use Rattle.pf_values.specs.declared.conversions.Conv.{Conv}
use Rattle.pf_values.specs.declared.conversions.Kind.{Kind}
use Rattle.pf_values.specs.declared.conversions.Kind.TheVariants as kinds
use Rattle.pf_values.specs.declared.flags.Flag.TheVariants.{Alt, Zero}
use Rattle.pf_values.specs.declared.flags.FlagSet.{FlagSet}
use Rattle.pf_values.specs.declared.limits.TheConstants.{MAX_NUMBER}
use Rattle.pf_values.specs.declared.models.Model.{Model}
use Rattle.pf_values.specs.meaning.Bases.{alternative_of, number_of, prefix_of, raises_precision}
use Rattle.pf_reduce.specs.Prefixes.{puts_prefix, is_prefixed}
use Rattle.pf_values.specs.meaning.Conversions.{
  alternative_under,
  base_of,
  base_under,
  has_capitals,
  is_upper,
  kept_conv,
  kind_of,
  prints_signed,
  prints_text,
}
use Rattle.pf_values.specs.meaning.DataModel.{bits_under}
use Rattle.pf_values.specs.meaning.Flags.{has, no_flags, with_flag}
use Rattle.pf_values.specs.meaning.Normal.{digits_at_most}
use Rattle.pf_values.specs.Directives.{effective_precision}
use Rattle.pf_values.specs.meaning.Printing.{front_under, is_zero, is_zero_filled, sign_or_prefix}
use Rattle.pf_values.specs.meaning.Specification.{Specification, width_of}
use Rattle.pf_values.specs.meaning.Text.{Text}
use Rattle.pf_values.proofs.Counts.{count-ge, count-le}
use Rattle.pf_values.proofs.NumberTexts.{number_text}
use Rattle.pf_values.proofs.Printed.{count_of, zero_digits}
use Rattle.pf_values.proofs.PrintsOnce.{value_text}
use Rattle.pf_reduce.specs.declared.padding.Padding.{Padding}
use Rattle.pf_reduce.specs.Cores.{padded_core, core_of_parts, kept_precision}
use Rattle.pf_reduce.specs.Padded.{IsUnseen, constants, with_padding, padding_of}
use Rattle.pf_reduce.specs.Reducing.{IsNormalCore, IsReducedTo}
use Rattle.pf_reduce.specs.Signs.{unseen_width}
use Rattle.pf_reduce.proofs.CarriedIntegers.{integer_reduced, kept_kind, width_is}
use Rattle.pf_reduce.proofs.UnprefixedNumbers.{digits_text, length-digits_text, natural_is}
use Rattle.pf_reduce.proofs.Precisions.{PrintsLike, alt_kept, core_text, effective, filled_right, same_filled, same_number}

-- `0x`, `0X` or `0b`, but nothing before 0
abbrev IsPrefix : ℕ → Text → Type 0
IsPrefix n t = ((n ≡ 0) × (t ≡ [])) ⊎ ((1 ≤ n) × (length t ≡ 2))

prefix_is : (letters : Text) (n : ℕ) (alt : Bool) → length letters ≡ 2 → alt ≡ true
    → IsPrefix n (if alt && not (is_zero n) then letters else [])
prefix_is letters n alt two e = grind arith

-- what is known of a kind of numbers that have a prefix under `#`
pub record HasPrefix (k : Kind) : Type 0 where
  pub raised : raises_precision (alternative_under k) ≡ false
  pub sign : prints_signed k ≡ false
  pub text : prints_text k ≡ false
  pub base : 2 ≤ number_of (base_under k)
  pub prefix : (s : Specification) (v : ℤ) → has s.flags Alt ≡ true
      → IsPrefix (nat_abs v) (front_under k s v)
  pub one_prefix : (s t : Specification) (v : ℤ) → has s.flags Alt ≡ true
      → has t.flags Alt ≡ true → front_under k t v ≡ front_under k s v

prefix_of_two : (base : Base) (capitals : Bool) → alternative_of base ≡ Prefixed
    → length (prefix_of base capitals) ≡ 2
prefix_of_two base capitals e = grind arith

with_prefix : (base : Base) (capitals : Bool) → alternative_of base ≡ Prefixed → 2 ≤ number_of base → HasPrefix (kinds.Unsigned base capitals)
with_prefix base capitals e two = record {
  raised = rw e refl;
  sign = refl;
  text = refl;
  base = two;
  prefix = λ s v a. rw e (prefix_is (prefix_of base capitals) (nat_abs v) (has s.flags Alt) (prefix_of_two base capitals e) a);
  one_prefix = λ s t v a b. rw (e, a, b) refl;
}

prefixed_under : (base : Base) (capitals : Bool) → puts_prefix (alternative_of base) ≡ true
    → HasPrefix (kinds.Unsigned base capitals)
prefixed_under base capitals e = grind (arith, with_prefix)

prefixed_kind : (k : Kind) → puts_prefix (alternative_under k) ≡ true → HasPrefix k
prefixed_kind k e = grind (arith, prefixed_under)

-- how long it is, and that it is empty only with precision 0
pub record IsPrefixed (precision digits : ℕ) (body : Text) : Type 0 where
  pub least : precision ≤ length body
  pub most : length body ≤ 2 + max precision digits
  pub some : precision ≡ 0 → (body ≡ []) ⊎ (3 ≤ length body)

prefixed : (conv : Conv) (precision most n : ℕ) (t : Text) → 2 ≤ base_of conv
    → count_of (base_of conv) n ≤ most → IsPrefix n t
    → IsPrefixed precision most (t ++ digits_text conv precision n)
prefixed conv precision most n t base few (inl h) =
    let len = length-digits_text conv precision n in
    let whole = length-append t (digits_text conv precision n) in
    let none : length t ≡ 0 = ap length h.1 in
    let no_digit : count_of (base_of conv) n ≡ 0 = rw h.0 refl in
    record { least = omega arith; most = omega arith; some = λ e. inl (rw (h.1, h.0, e) refl) }
prefixed conv precision most n t base few (inr h) =
    let len = length-digits_text conv precision n in
    let whole = length-append t (digits_text conv precision n) in
    let some = count-ge (base_of conv) n base h.0 in
    record { least = omega arith; most = omega arith; some = λ e. inr (omega arith) }

narrow_of : (w : ℕ) → (1 ≤ 0) ⊎ (w ≤ 1) → w ≤ 1
narrow_of w (inl h) = absurd (omega arith)
narrow_of w (inr h) = h

module _ (s : Specification) (form : is_prefixed s.conv ≡ true) (alt : has s.flags Alt ≡ true) where
  has_prefix : HasPrefix (kind_of s.conv)
  has_prefix = prefixed_kind (kind_of s.conv) form

  like : (t : Specification) (v : ℤ) → t.conv ≡ kept_conv s.conv → has t.flags Alt ≡ true
      → PrintsLike s t v
  like t v e a =
      let same : kind_of t.conv ≡ kind_of s.conv = ap kind_of e ∙ kept_kind s.conv in
      record {
        base = ap (λ k. number_of (base_under k)) same;
        upper = ap has_capitals same;
        natural = rw (same, a, alt) refl;
        front = ap (λ k. front_under k t v) same ∙ has_prefix.one_prefix s t v alt a;
      }

  number_text-prefixed : (precision : ℕ) (v : ℤ)
      → number_text s precision v ≡ sign_or_prefix s v ++ digits_text s.conv precision (nat_abs v)
  number_text-prefixed precision v =
      let natural = natural_is s.conv (has s.flags Alt) (nat_abs v) (rw has_prefix.raised refl) in
      ap (λ k. sign_or_prefix s v ++ zero_digits (base_of s.conv) (is_upper s.conv) k (nat_abs v))
      (omega arith)

module _ (model : Model) (s : Specification) (form : is_prefixed s.conv ≡ true) (alt : has s.flags Alt ≡ true) where
  pub prefixed_reduced : (p : Padding) (precision : ℕ) → (is_zero_filled s ≡ true → (1 ≤ 0) ⊎ (width_of s ≤ 1)) → precision ≡ effective_precision s 0
      → IsNormalCore model (padded_core model s p (with_flag no_flags Alt) (kept_precision precision)).core → constants p ≤ MAX_NUMBER
      → ((body : Text) → IsPrefixed precision (digits_at_most model s) body → with_padding (padding_of s) body ≡ with_padding p body)
      → IsReducedTo model s (padded_core model s p (with_flag no_flags Alt) (kept_precision precision))
  prefixed_reduced p precision narrow p_is normal few same =
      let flags : FlagSet = with_flag no_flags Alt in
      let t : Specification = core_of_parts model s p flags (kept_precision precision) in
      let h = has_prefix s form alt in
      integer_reduced model s p flags (kept_precision precision) h.text refl normal few (λ v fits.
      let body = number_text s precision v in
      let whole : value_text s v ≡ body = effective s v 0 (λ filled. inr (narrow_of (width_of s) (narrow filled))) ∙ ap (λ k. number_text s k v) (sym p_is) in
      let core : value_text t v ≡ body = core_text model s p flags precision v refl
      ∙ same_number s t precision v (like s form alt t v refl (alt_kept p.left)) in
      let is : IsPrefixed precision (digits_at_most model s) body = rw (number_text-prefixed s form alt precision v)
      (prefixed s.conv precision _ (nat_abs v) (sign_or_prefix s v) h.base (count-le s.conv (bits_under model s.length) h.text v fits) (h.prefix s v alt))
      in
      ap (with_padding (padding_of s)) whole ∙ same body is ∙ ap (with_padding p) (sym core))

  -- zeros up to the width, which stay
  pub prefixed_filled : is_zero_filled s ≡ true → (let flags = with_flag (with_flag no_flags Alt) Zero in IsNormalCore model
      (padded_core model s (padding_of s) flags None).core → IsReducedTo model s (padded_core model s (padding_of s) flags None))
  prefixed_filled all normal =
      let flags : FlagSet = with_flag (with_flag no_flags Alt) Zero in
      let t : Specification = core_of_parts model s (padding_of s) flags None in
      let right = filled_right s all in
      let h = has_prefix s form alt in
      integer_reduced model s (padding_of s) flags None h.text refl normal (omega arith) (λ v fits.
      ap (with_padding (padding_of s)) (sym (same_filled s t v (like s form alt t v refl (rw right refl)) (width_is (width_of s)) all (rw right refl))))

-- with precision 0 the side isn't seen up to a width of 3
pub unseen_side : (w precision : ℕ) (body : Text) → (precision ≡ 0 → (body ≡ []) ⊎ (3 ≤ length body)) → w ≤ unseen_width precision 3 → IsUnseen w body
unseen_side w zero body h small = elim (h refl) [
  | inl empty ↦ inr (rw empty refl)
  | inr long ↦ inl (omega (arith, small, long))
]
unseen_side w (suc precision) body h small = inl (omega (arith, small))
