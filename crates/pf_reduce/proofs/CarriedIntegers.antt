-- Integers: one equation on the value is enough.
use Rattle.std.proofs.Common.{arith, ◌≡◌, ℕ, zero, suc, ◌≤◌, Bool, false, refl, sym, ap, ◌∙◌, ℤ}
use Rattle.std.specs.Prelude.{Option, Some, unwrap_or}
use Rattle.std.proofs.lemmas.List.{append-nil}
use Rattle.pf_values.specs.declared.conversions.Conv.{Conv}
use Rattle.pf_values.specs.declared.conversions.Conv.TheVariants.{I}
use Rattle.pf_values.specs.declared.conversions.Kind.{Kind}
use Rattle.pf_values.specs.declared.flags.Flag.TheVariants.{Minus}
use Rattle.pf_values.specs.declared.flags.FlagSet.{FlagSet}
use Rattle.pf_values.specs.declared.lengths.Length.{Length}
use Rattle.pf_values.specs.declared.limits.TheConstants.{MAX_NUMBER}
use Rattle.pf_values.specs.declared.models.Model.{Model}
use Rattle.pf_values.specs.meaning.Arguments.{Number, String, IsConverted}
use Rattle.pf_values.specs.meaning.Conversions.{
  is_signed,
  is_text,
  kept_conv,
  kind_of,
  prints_signed,
  prints_text,
}
use Rattle.pf_values.specs.meaning.DataModel.{FitsIn, bit_count, bits_under, kept_length, type_of_kind, type_under}
use Rattle.pf_values.specs.meaning.Flags.{has}
use Rattle.pf_values.specs.meaning.Printing.{PrintsKind, PrintsNumber, field}
use Rattle.pf_values.specs.meaning.Specification.{Specification}
use Rattle.pf_values.specs.Directives.{width_given}
use Rattle.pf_values.specs.meaning.Text.{Text}
use Rattle.pf_values.proofs.DataModelLemmas.{kept_row}
use Rattle.pf_values.proofs.PrintsOnce.{PrintsNumber-is, PrintsNumber-value, value_text}
use Rattle.pf_reduce.specs.declared.padding.Padding.{Padding}
use Rattle.pf_reduce.specs.declared.results.Reduced.{Reduced}
use Rattle.pf_reduce.specs.Cores.{padded_core, core_of_parts, with_side}
use Rattle.pf_reduce.specs.Padded.{constants, with_padding, padding_of}
use Rattle.pf_reduce.specs.Reducing.{IsNormalCore, IsReducedTo, around, core_of}
use Rattle.pf_reduce.proofs.Carried.{Carries, prints_reduced}

under_number : (model : Model) (k : Kind) → prints_text k ≡ false → (s : Specification) (n : ℤ) (body : Text)
    → PrintsKind model k s (Number n) body → PrintsNumber model s n body
under_number model k e s n body h = grind arith

number_under : (model : Model) (k : Kind) → prints_text k ≡ false → (s : Specification) (n : ℤ) (body : Text)
    → PrintsNumber model s n body → PrintsKind model k s (Number n) body
number_under model k e s n body h = grind arith

no_string_under : (model : Model) (k : Kind) → prints_text k ≡ false → (s : Specification) (t body : Text)
    → PrintsKind model k s (String t) body → ⊥
no_string_under model k e s t body h = grind arith

-- a value that a directive may print
abbrev pub IsValueOf : Model → Specification → ℤ → Type 0
IsValueOf model s v = FitsIn (is_signed s.conv) (bit_count (bits_under model s.length)) v

pub carries : (model : Model) (s : Specification) (r : Reduced) → is_text s.conv ≡ false → is_text (core_of r.core).conv ≡ false
    → is_signed (core_of r.core).conv ≡ is_signed s.conv → bits_under model (core_of r.core).length ≡ bits_under model s.length
    → ((v : ℤ) → IsValueOf model s v → field s (value_text s v) ≡ around r (field (core_of r.core) (value_text (core_of r.core) v)))
    → Carries model s r
carries model s r e f sign bits same (String t) inner typed p = absurd (no_string_under model (kind_of (core_of r.core).conv) f (core_of r.core) t p.0 p.1)
carries model s r e f sign bits same (Number n) inner typed p =
    let h = under_number model (kind_of (core_of r.core).conv) f (core_of r.core) n p.0 p.1 in
    let value : IsConverted (is_signed s.conv) (bit_count (bits_under model s.length)) n h.value = rw (← sign, ← bits) h.value_is in
    let body = PrintsNumber-is model (core_of r.core) n p.0 h in (
      value_text s h.value,
      number_under model (kind_of s.conv) e s n _ (PrintsNumber-value model s n h.value value),
      ap (around r) (p.2 ∙ ap (field (core_of r.core)) body) ∙ sym (same h.value value.fits),
    )

pub kept_kind : (conv : Conv) → kind_of (kept_conv conv) ≡ kind_of conv
kept_kind I = refl
kept_kind _ = refl

kept_type_of : (model : Model) (k : Kind) (length : Length)
    → type_of_kind model k (kept_length model length) ≡ type_of_kind model k length
kept_type_of model k length = grind (arith, kept_row)

pub kept_type : (model : Model) (conv : Conv) (length : Length)
    → type_under model (kept_conv conv) (kept_length model length) ≡ type_under model conv length
kept_type model conv length =
    ap (λ k. type_of_kind model k (kept_length model length)) (kept_kind conv)
    ∙ kept_type_of model (kind_of conv) length

pub kept_bits : (model : Model) (length : Length) → bits_under model (kept_length model length) ≡ bits_under model length
kept_bits model length = ap (λ r. r.bits) (kept_row model length)

pub kept_text : (conv : Conv) → is_text (kept_conv conv) ≡ is_text conv
kept_text conv = ap prints_text (kept_kind conv)

pub kept_sign : (conv : Conv) → is_signed (kept_conv conv) ≡ is_signed conv
kept_sign conv = ap prints_signed (kept_kind conv)

pub width_is : (w : ℕ) → unwrap_or (width_given (Some w)) 0 ≡ w
width_is zero = refl
width_is (suc w) = refl

minus_is : (left : Bool) (flags : FlagSet) → has flags Minus ≡ false → has (with_side left flags) Minus ≡ left
minus_is left flags h = grind arith

-- the field of a directive, and that of a core within its padding
pub field-padded : (s : Specification) (body : Text) → field s body ≡ with_padding (padding_of s) body
field-padded s body = sym (append-nil (field s body))

pub padded-made : (model : Model) (s : Specification) (p : Padding) (flags : FlagSet) (precision : Option ℕ) (body : Text) → has flags Minus ≡ false
    → with_padding p body ≡ around (padded_core model s p flags precision) (field (core_of_parts model s p flags precision) body)
padded-made model s p flags precision body right = rw (minus_is p.left flags right, width_is p.width) refl

-- A core made of parts prints the same values, within its padding.
pub integer_reduced : (model : Model) (s : Specification) (p : Padding) (flags : FlagSet) (precision : Option ℕ) → is_text s.conv ≡ false
    → has flags Minus ≡ false → IsNormalCore model (padded_core model s p flags precision).core → constants p ≤ MAX_NUMBER
    → ((v : ℤ) → IsValueOf model s v → with_padding (padding_of s) (value_text s v) ≡ with_padding p (value_text (core_of_parts model s p flags precision) v))
    → IsReducedTo model s (padded_core model s p flags precision)
integer_reduced model s p flags precision text right normal few same =
    let r : Reduced = padded_core model s p flags precision in
    let agree : (v : ℤ) → IsValueOf model s v → field s (value_text s v) ≡ around r (field (core_of r.core) (value_text (core_of r.core) v)) =
    λ v fits. field-padded s _ ∙ same v fits ∙ padded-made model s p flags precision _ right in
    record {
      normal = normal;
      same_type = kept_type model s.conv s.length;
      prints = prints_reduced model s r (kept_type model s.conv s.length)
          (carries model s r text (kept_text s.conv ∙ text) (kept_sign s.conv) (kept_bits model s.length) agree);
      silent = λ x. cc;
      few = few;
    }
