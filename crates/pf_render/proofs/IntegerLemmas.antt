-- What is written of a number is what is printed of it.
use Rattle.std.proofs.Common.{◌≡◌, ℕ, ◌+◌, ◌-◌, max, Bool, true, false, ◌++◌, length, replicate, refl, sym, ap, ◌∙◌, arith, ℤ}
use Rattle.std.specs.Prelude.{nat_abs, ◌&&◌, if◌then◌else◌, IsFalse}
use Rattle.std.proofs.lemmas.Bool.Decides.{nat_tests}
use Rattle.std.proofs.lemmas.List.{length-map}
use Rattle.pf_values.specs.declared.conversions.Conv.{Conv}
use Rattle.pf_values.specs.declared.conversions.Conv.TheVariants.{O}
use Rattle.pf_values.specs.declared.conversions.Kind.{Kind}
use Rattle.pf_values.specs.declared.conversions.Kind.TheVariants as kinds
use Rattle.pf_values.specs.declared.flags.Flag.TheVariants.{Alt}
use Rattle.pf_values.specs.declared.models.Model.{Model}
use Rattle.pf_values.specs.meaning.Arguments.{Number, IsValue}
use Rattle.pf_values.specs.meaning.Conversions.{base_of, is_octal, is_text, kind_of, prints_text}
use Rattle.pf_values.specs.meaning.Flags.{has}
use Rattle.pf_values.specs.meaning.Normal.{precision_of}
use Rattle.pf_values.specs.meaning.Printing.{
  Prints,
  PrintsKind,
  PrintsNumber,
  field,
  is_zero_filled,
  sign_or_prefix,
}
use Rattle.pf_values.specs.meaning.Specification.{Specification, width_of}
use Rattle.pf_values.specs.meaning.Text.{Text, zero_digit}
use Rattle.pf_values.proofs.NumberTexts.{value_text-is}
use Rattle.pf_values.proofs.Printed.{
  count_of,
  filled_precision,
  natural_len,
  natural_of,
  precision_under,
  printed_precision,
  zeros_of,
}
use Rattle.pf_values.proofs.PrintsOnce.{PrintsNumber-value, value_text}
use Rattle.pf_render.specs.declared.integer_parts.IntegerParts.{IntegerParts}
use Rattle.pf_render.specs.IntegerParts.{HasParts, kind_digits, parts_text, sign_or_prefix_text}
use Rattle.pf_render.specs.Zeros.{zeros_for}

fewest_under : (conv : Conv) (alt : Bool) (n : ℕ)
    → natural_len (is_octal conv && alt) (base_of conv) n
    ≡ (if is_octal conv && alt then count_of (base_of conv) n + 1 else count_of (base_of conv) n)
fewest_under O true n = omega arith
fewest_under O false n = refl
fewest_under _ alt n = refl

filled_max : (width front natural : ℕ)
    → max (max (width - front) 1) natural ≡ max (filled_precision width front natural) natural
filled_max width front natural = grind (arith, nat_tests)

-- what is left of the width, or less where the digits need more
precision_is : (b : Bool) (s : Specification) (v : ℤ) (fewest : ℕ) → fewest ≡ natural_of s (nat_abs v)
    → max (if b then max (width_of s - length (sign_or_prefix s v)) 1 else precision_of s) fewest
    ≡ max (precision_under b s v) (natural_of s (nat_abs v))
precision_is true s v fewest e =
    rw e (filled_max (width_of s) (length (sign_or_prefix s v)) (natural_of s (nat_abs v)))
precision_is false s v fewest e = rw e refl

zeros_is : (s : Specification) (v : ℤ)
    → zeros_for s (length (sign_or_prefix s v)) (count_of (base_of s.conv) (nat_abs v))
    ≡ zeros_of s (printed_precision s v) (nat_abs v)
zeros_is s v =
    let fewest = sym (fewest_under s.conv (has s.flags Alt) (nat_abs v)) in
    let precision = precision_is (is_zero_filled s) s v _ fewest in
    omega (arith, precision)

-- the parts of a value are its text, where its digits are counted
pub parts_are : (s : Specification) (v : ℤ) (count : ℕ) (parts : IntegerParts) → HasParts s v count parts
    → count ≡ count_of (base_of s.conv) (nat_abs v)
    → parts_text parts (kind_digits (kind_of s.conv) (nat_abs v)) ≡ value_text s v
parts_are s v count parts h counted =
    let digits = kind_digits (kind_of s.conv) (nat_abs v) in
    let zeros : parts.zeros ≡ zeros_of s (printed_precision s v) (nat_abs v) =
    h.zeros
    ∙ ap (λ t. zeros_for s (length t) count) h.prefix
    ∙ ap (zeros_for s (length (sign_or_prefix s v))) counted
    ∙ zeros_is s v in
    ap (λ t. t ++ (replicate parts.zeros zero_digit ++ digits)) h.prefix
    ∙ ap (λ k. sign_or_prefix s v ++ (replicate k zero_digit ++ digits)) zeros
    ∙ sym (value_text-is s v)

under_number : (model : Model) (k : Kind) (s : Specification) (a : ℤ) (body : Text) → IsFalse (prints_text k)
    → PrintsNumber model s a body → PrintsKind model k s (Number a) body
under_number model kinds.Signed s a body e h = h
under_number model (kinds.Unsigned base capitals) s a body e h = h
under_number model kinds.Char s a body e h = cc
under_number model kinds.String s a body e h = cc

-- the parts of a number that are written, in the field
pub Prints-written : (model : Model) (s : Specification) (a v : ℤ) (count : ℕ) (parts : IntegerParts)
    (prefix zeros digits : Text) → IsFalse (is_text s.conv) → IsValue model s a v
    → HasParts s v count parts → count ≡ length digits → prefix ≡ sign_or_prefix_text parts.prefix
    → zeros ≡ replicate parts.zeros zero_digit → digits ≡ kind_digits (kind_of s.conv) (nat_abs v)
    → Prints model s (Number a) (field s (prefix ++ (zeros ++ digits)))
Prints-written model s a v count parts prefix zeros digits e h g counted p z d =
    let text = parts_are s v count parts g (counted ∙ ap length d ∙ length-map _ _) in
    (_, under_number model (kind_of s.conv) s a _ e (rw (p, z, d, text) (PrintsNumber-value model s a v h)), refl)
