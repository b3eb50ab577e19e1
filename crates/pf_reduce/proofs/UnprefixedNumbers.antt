-- Digits alone, and octal digits that begin with 0.
use Rattle.std.proofs.Common.{◌≡◌, ℕ, suc, ◌+◌, ◌-◌, ◌≤◌, max, Bool, true, false, [], ◌∷◌, ◌++◌, length, map, replicate, refl, sym, ap, ◌∙◌, append_assoc}
use Rattle.std.proofs.Common.{subst, arith, inl, inr, ℤ}
use Rattle.std.specs.Prelude.{nat_abs, ◌&&◌}
use Rattle.std.specs.Fmt.{digit_glyph}
use Rattle.std.specs.Int.Digits.{digits_of}
use Rattle.std.proofs.lemmas.List.{replicate-append-replicate}
use Rattle.pf_values.specs.declared.bases.Base.TheVariants.{Octal}
use Rattle.pf_values.specs.declared.conversions.Conv.{Conv}
use Rattle.pf_values.specs.declared.conversions.Conv.TheVariants.{O}
use Rattle.pf_values.specs.declared.conversions.Kind.{Kind}
use Rattle.pf_values.specs.declared.conversions.Kind.TheVariants as kinds
use Rattle.pf_values.specs.declared.flags.Flag.TheVariants.{Alt}
use Rattle.pf_values.specs.declared.limits.TheConstants.{MAX_NUMBER}
use Rattle.pf_values.specs.declared.models.Model.{Model}
use Rattle.pf_values.specs.meaning.Bases.{number_of}
use Rattle.pf_values.specs.meaning.Conversions.{
  base_of,
  base_under,
  is_octal,
  is_signed,
  is_text,
  is_upper,
  kind_of,
  prints_signed,
  prints_text,
}
use Rattle.pf_values.specs.meaning.DataModel.{bits_under}
use Rattle.pf_values.specs.meaning.Flags.{has, no_flags, with_flag}
use Rattle.pf_values.specs.meaning.Normal.{digits_at_most}
use Rattle.pf_values.specs.Directives.{effective_precision}
use Rattle.pf_values.specs.meaning.Printing.{front_under, sign_or_prefix}
use Rattle.pf_values.specs.meaning.Specification.{Specification}
use Rattle.pf_values.specs.meaning.Text.{Text, zero_digit}
use Rattle.pf_values.proofs.Counts.{count-le}
use Rattle.pf_values.proofs.NumberTexts.{length-zero_digits, number_text}
use Rattle.pf_values.proofs.Printed.{count_of, natural_len, zero_digits}
use Rattle.pf_values.proofs.PrintsOnce.{value_text}
use Rattle.pf_reduce.specs.declared.padding.Padding.{Padding}
use Rattle.pf_reduce.specs.Cores.{padded_core, core_of_parts, with_side, kept_precision}
use Rattle.pf_reduce.specs.Padded.{IsUnseen, constants, with_padding, padding_of}
use Rattle.pf_reduce.specs.Reducing.{IsNormalCore, IsReducedTo}
use Rattle.pf_reduce.proofs.CarriedIntegers.{integer_reduced, kept_kind, kept_sign}
use Rattle.pf_reduce.proofs.Precisions.{alt_kept, core_text, effective}

-- zeros up to a precision, and then the digits
abbrev pub digits_text : Conv → ℕ → ℕ → Text
digits_text conv precision n =
    zero_digits (base_of conv) (is_upper conv) (precision - count_of (base_of conv) n) n

pub length-digits_text : (conv : Conv) (precision n : ℕ)
    → length (digits_text conv precision n) ≡ max precision (count_of (base_of conv) n)
length-digits_text conv precision n =
    let zeros = precision - count_of (base_of conv) n in
    omega (arith, length-zero_digits (base_of conv) (is_upper conv) zeros n)

no_front : (k : Kind) (s : Specification) (v : ℤ) → prints_signed k ≡ false
    → has s.flags Alt ≡ false → front_under k s v ≡ []
no_front k s v sign alt = grind arith

pub no_prefix : (s : Specification) (v : ℤ) → is_signed s.conv ≡ false
    → has s.flags Alt ≡ false → sign_or_prefix s v ≡ []
no_prefix s v sign alt = no_front (kind_of s.conv) s v sign alt

pub natural_is : (conv : Conv) (alt : Bool) (n : ℕ) → (is_octal conv && alt) ≡ false
    → natural_len (is_octal conv && alt) (base_of conv) n ≡ count_of (base_of conv) n
natural_is conv alt n e = rw e refl

not_from_zero : (octal alt : Bool) → alt ≡ false → (octal && alt) ≡ false
not_from_zero octal alt e = grind arith

number_text-plain : (s : Specification) (precision : ℕ) (v : ℤ) → is_signed s.conv ≡ false
    → has s.flags Alt ≡ false → number_text s precision v ≡ digits_text s.conv precision (nat_abs v)
number_text-plain s precision v sign alt =
    let bare = not_from_zero (is_octal s.conv) (has s.flags Alt) alt in
    let natural = natural_is s.conv (has s.flags Alt) (nat_abs v) bare in
    rw (no_prefix s v sign alt)
    (ap (λ k. zero_digits (base_of s.conv) (is_upper s.conv) k (nat_abs v)) (omega arith))

-- conversions of one kind have the same digits
pub same_digits : (c d : Conv) (precision n : ℕ) → kind_of c ≡ kind_of d
    → digits_text c precision n ≡ digits_text d precision n
same_digits c d precision n e = rw e refl

no_alt : (left : Bool) → has (with_side left no_flags) Alt ≡ false
no_alt left = grind arith

-- Digits alone are left.
pub digits_reduced : (model : Model) (s : Specification) (p : Padding) (precision : ℕ) → is_text s.conv ≡ false → is_signed s.conv ≡ false
    → IsNormalCore model (padded_core model s p no_flags (kept_precision precision)).core → constants p ≤ MAX_NUMBER
    → ((v : ℤ) → count_of (base_of s.conv) (nat_abs v) ≤ digits_at_most model s
    → with_padding (padding_of s) (value_text s v) ≡ with_padding p (digits_text s.conv precision (nat_abs v)))
    → IsReducedTo model s (padded_core model s p no_flags (kept_precision precision))
digits_reduced model s p precision text sign normal few same =
    let t : Specification = core_of_parts model s p no_flags (kept_precision precision) in
    let kept = kept_kind s.conv in
    integer_reduced model s p no_flags (kept_precision precision) text refl normal few (λ v fits.
    let core : value_text t v ≡ digits_text s.conv precision (nat_abs v) =
    core_text model s p no_flags precision v refl ∙ number_text-plain t precision v (kept_sign s.conv ∙ sign) (no_alt p.left)
    ∙ same_digits t.conv s.conv precision (nat_abs v) kept in
    same v (count-le s.conv (bits_under model s.length) text v fits) ∙ ap (with_padding p) (sym core))

-- what `u`, and `o x X b` without `#`, print
pub unprefixed_value : (s : Specification) (v : ℤ) → is_signed s.conv ≡ false → has s.flags Alt ≡ false
    → value_text s v ≡ digits_text s.conv (effective_precision s 0) (nat_abs v)
unprefixed_value s v sign alt = effective s v 0 (λ e. inl (ap length (no_prefix s v sign alt))) ∙ number_text-plain s (effective_precision s 0) v sign alt

-- some of the zeros in front
pub split_zeros : (conv : Conv) (precision z n k : ℕ) → k ≡ z + (precision - z - count_of (base_of conv) n)
    → zero_digits (base_of conv) (is_upper conv) k n ≡ replicate z zero_digit ++ digits_text conv (precision - z) n
split_zeros conv precision z n k h =
    ap (λ m. zero_digits (base_of conv) (is_upper conv) m n) h
    ∙ ap (λ t. t ++ map (digit_glyph (is_upper conv)) (digits_of (base_of conv) n))
    (sym (replicate-append-replicate z (precision - z - count_of (base_of conv) n) zero_digit))
    ∙ append_assoc (replicate z zero_digit) _ _

-- zeros beyond the most digits
pub beyond_most : (precision most count : ℕ) → count ≤ most → precision - count ≡ (precision - most) + (precision - (precision - most) - count)
beyond_most precision most count h = omega arith

-- a width of 1 is reached by each text but the empty one
pub one_or_none : (w : ℕ) (body : Text) → w ≤ 1 → IsUnseen w body
one_or_none w [] h = inr refl
one_or_none w (x ∷ xs) h = inl (omega arith)

-- octal digits that begin with 0
abbrev pub octal_text : ℕ → ℕ → Text
octal_text precision n = zero_digits 8 false (max precision (suc (count_of 8 n)) - count_of 8 n) n

pub length-octal_text : (precision n : ℕ) → length (octal_text precision n) ≡ max precision (suc (count_of 8 n))
length-octal_text precision n = omega (arith, length-zero_digits 8 false (max precision (suc (count_of 8 n)) - count_of 8 n) n)

-- `o`
abbrev pub IsOctal : Conv → Type 0
IsOctal conv = kind_of conv ≡ kinds.Unsigned Octal false

pub octal : (conv : Conv) → is_octal conv ≡ true → IsOctal conv
octal conv e = grind arith

number_text-octal : (s : Specification) (precision : ℕ) (v : ℤ) → IsOctal s.conv
    → has s.flags Alt ≡ true → number_text s precision v ≡ octal_text precision (nat_abs v)
number_text-octal s precision v e alt = rw (e, alt) refl

octal_empty : (s : Specification) (v : ℤ) → IsOctal s.conv → sign_or_prefix s v ≡ []
octal_empty s v e = ap (λ k. front_under k s v) e

-- what `o` with `#` prints, whose precision may as well be 1 as 0
pub octal_value : (s : Specification) (v : ℤ) → IsOctal s.conv → has s.flags Alt ≡ true
    → value_text s v ≡ octal_text (max (effective_precision s 0) 1) (nat_abs v)
octal_value s v e alt =
    effective s v 0 (λ filled. inl (ap length (octal_empty s v e)))
    ∙ number_text-octal s (effective_precision s 0) v e alt
    ∙ ap (λ k. zero_digits 8 false (k - count_of 8 (nat_abs v)) (nat_abs v)) (omega arith)

-- the first 0, and zeros beyond the most digits
octal_beyond : (precision most z count : ℕ) → 1 ≤ precision → z ≡ 1 + (precision - 1 - most) → count ≤ most
    → max precision (suc count) - count ≡ z + (precision - z - count)
octal_beyond precision most z count some e h = omega arith

pub octal_split : (conv : Conv) → IsOctal conv → (precision most z n : ℕ) → 1 ≤ precision
    → z ≡ 1 + (precision - 1 - most) → count_of 8 n ≤ most
    → octal_text precision n ≡ replicate z zero_digit ++ digits_text conv (precision - z) n
octal_split conv e precision most z n some z_is few =
    split_zeros O precision z n _ (octal_beyond precision most z (count_of 8 n) some z_is few)
    ∙ ap (λ t. replicate z zero_digit ++ t) (same_digits O conv (precision - z) n (sym e))

pub octal_count : (model : Model) (s : Specification) → IsOctal s.conv → (n : ℕ)
    → count_of (base_of s.conv) n ≤ digits_at_most model s → count_of 8 n ≤ digits_at_most model s
octal_count model s e n h = subst (λ k. count_of (number_of (base_under k)) n ≤ digits_at_most model s) e h

-- the flag `#` stays
pub octal_reduced : (model : Model) (s : Specification) (p : Padding) (precision : ℕ) → IsOctal s.conv → has s.flags Alt ≡ true
    → IsNormalCore model (padded_core model s p (with_flag no_flags Alt) (kept_precision precision)).core → constants p ≤ MAX_NUMBER
    → ((v : ℤ) → count_of 8 (nat_abs v) ≤ digits_at_most model s → with_padding (padding_of s) (value_text s v) ≡ with_padding p
    (octal_text precision (nat_abs v)))
    → IsReducedTo model s (padded_core model s p (with_flag no_flags Alt) (kept_precision precision))
octal_reduced model s p precision e alt normal few same =
    let flags = with_flag no_flags Alt in
    let t : Specification = core_of_parts model s p flags (kept_precision precision) in
    let text : is_text s.conv ≡ false = ap prints_text e in
    integer_reduced model s p flags (kept_precision precision) text refl normal few (λ v fits.
    let core : value_text t v ≡ octal_text precision (nat_abs v) =
    core_text model s p flags precision v refl ∙ number_text-octal t precision v (kept_kind s.conv ∙ e) (alt_kept p.left) in
    same v (octal_count model s e (nat_abs v) (count-le s.conv (bits_under model s.length) text v fits)) ∙ ap (with_padding p) (sym core))
