-- Directives that are reduced to themselves with other letters, or with a precision in place of a width.
use Rattle.std.proofs.Common.{◌≡◌, ◌≢◌, ℕ, ◌≤◌, Bool, true, false, Option, None, ◌++◌, refl, sym, ap, ◌∙◌, subst, arith, ℤ}
use Rattle.std.specs.Prelude.{MatchBool, nat_abs, unwrap_or}
use Rattle.std.proofs.lemmas.List.{append-nil}
use Rattle.pf_values.specs.declared.bases.Alternative.{Alternative}
use Rattle.pf_values.specs.declared.conversions.Conv.{Conv}
use Rattle.pf_values.specs.declared.conversions.Conv.TheVariants.{I}
use Rattle.pf_values.specs.declared.conversions.Kind.{Kind}
use Rattle.pf_values.specs.declared.flags.Flag.TheVariants.{Zero}
use Rattle.pf_values.specs.declared.flags.FlagSet.{FlagSet}
use Rattle.pf_values.specs.declared.lengths.Length.{Length}
use Rattle.pf_values.specs.declared.models.Model.{Model}
use Rattle.pf_values.specs.meaning.Conversions.{is_signed, is_text, kept_conv, kind_of}
use Rattle.pf_values.specs.meaning.DataModel.{bits_under, kept_length, most_digits, most_digits_of}
use Rattle.pf_values.specs.meaning.Defined.{refused_as}
use Rattle.pf_values.specs.meaning.Flags.{no_flags, with_flag}
use Rattle.pf_values.specs.meaning.Normal.{HasNormalForm, HasPrefixedForm, HasUnsignedForm, IsNormal, digits_at_most, sign_len, silent}
use Rattle.pf_values.specs.meaning.Normal.{IsNormalFilled, IsNormalOctal, IsNormalPrefixed, IsNormalSigned, IsNormalString, IsNormalUnprefixed}
use Rattle.pf_values.specs.meaning.Printing.{Prints, field, is_zero_filled, sign_or_prefix}
use Rattle.pf_values.specs.meaning.Specification.{Specification, width_of}
use Rattle.pf_values.proofs.DataModelLemmas.{kept_row}
use Rattle.pf_values.proofs.Printed.{precision_under, printed_digits}
use Rattle.pf_values.proofs.PrintsOnce.{value_text}
use Rattle.pf_reduce.specs.declared.padding.Padding.{Padding}
use Rattle.pf_reduce.specs.Changes.{HasPlainParts, as_precision, kept_letters}
use Rattle.pf_reduce.specs.Cores.{kept_precision, padded_core}
use Rattle.pf_reduce.specs.Padded.{padding_of}
use Rattle.pf_reduce.specs.Reducing.{IsReducedTo, IsReduction, itself}
use Rattle.pf_reduce.proofs.Carried.{Carries, prints_reduced}
use Rattle.pf_reduce.proofs.CarriedIntegers.{carries, kept_bits, kept_kind, kept_sign, kept_text, kept_type}
use Rattle.pf_reduce.proofs.FilledNumbers.{filled_not_normal, filled_reduced}
use Rattle.pf_reduce.proofs.Narrowing.{no_width}
use Rattle.pf_reduce.proofs.TextCores.{no_length}

-- a byte or a string has no length modifier, so the letters of a normal one are its own
own_letters : (model : Model) (s : Specification) (conv : Conv) → refused_as s ≡ None → s.conv ≡ conv → is_text conv ≡ true → kept_letters model s ≡ s
own_letters model s conv allowed is e = grind (arith, no_length)

-- the letters of a normal directive change nothing that is rejected
refused_kept : (model : Model) (f : FlagSet) (w p : Option ℕ) (l : Length) (conv : Conv)
    → refused_as (record { flags = f; width = w; precision = p; length = l; conv = conv }) ≡ None
    → refused_as (record { flags = f; width = w; precision = p; length = kept_length model l; conv = kept_conv conv }) ≡ None
refused_kept model f w p l conv h = grind (arith, own_letters)

kept_conv_twice : (conv : Conv) → kept_conv (kept_conv conv) ≡ kept_conv conv
kept_conv_twice I = refl
kept_conv_twice _ = refl

-- what is printed of a value
precision_kept : (model : Model) (f : FlagSet) (w p : Option ℕ) (l : Length) (conv : Conv) (v : ℤ) (filled : Bool)
    → precision_under filled (record { flags = f; width = w; precision = p; length = l; conv = conv }) v
    ≡ precision_under filled (record { flags = f; width = w; precision = p; length = kept_length model l; conv = kept_conv conv }) v
precision_kept model f w p l conv v filled = grind arith

value_kept : (model : Model) (f : FlagSet) (w p : Option ℕ) (l : Length) (conv : Conv) (v : ℤ)
    → value_text (record { flags = f; width = w; precision = p; length = l; conv = conv }) v
    ≡ value_text (record { flags = f; width = w; precision = p; length = kept_length model l; conv = kept_conv conv }) v
value_kept model f w p l I v = let s : Specification = record { flags = f; width = w; precision = p; length = l; conv = I } in
    ap (λ k. sign_or_prefix s v ++ printed_digits s k (nat_abs v)) (precision_kept model f w p l I v (is_zero_filled s))
value_kept model f w p l conv v = let s : Specification = record { flags = f; width = w; precision = p; length = l; conv = conv } in
    ap (λ k. sign_or_prefix s v ++ printed_digits s k (nat_abs v)) (precision_kept model f w p l conv v (is_zero_filled s))

module _ (model : Model) (s : Specification) where
  abbrev kept : Specification
  kept = kept_letters model s

  same_digits : digits_at_most model s ≡ digits_at_most model kept
  same_digits = ap (λ k. most_digits_of k (bits_under model s.length)) (sym (kept_kind s.conv))
      ∙ ap (most_digits kept.conv) (sym (kept_bits model s.length))

  -- the form depends on the letters only by the most digits
  string_kept : IsNormalString s → IsNormalString kept
  string_kept h = grind arith

  filled_kept : IsNormalFilled s → IsNormalFilled kept
  filled_kept h = grind arith

  unprefixed_kept : IsNormalUnprefixed model s → IsNormalUnprefixed model kept
  unprefixed_kept h = grind (arith, same_digits)

  octal_kept : IsNormalOctal model s → IsNormalOctal model kept
  octal_kept h = grind (arith, same_digits)

  prefixed_kept : IsNormalPrefixed model s → IsNormalPrefixed model kept
  prefixed_kept h = grind (arith, same_digits)

  signed_kept : IsNormalSigned model s → IsNormalSigned model kept
  signed_kept h = grind (arith, same_digits)

  prefixed_form_kept : (alt fill : Bool) → HasPrefixedForm model alt fill s → HasPrefixedForm model alt fill kept
  prefixed_form_kept alt fill h = grind (arith, filled_kept, prefixed_kept, unprefixed_kept)

  raised_form_kept : (alt : Bool) → MatchBool alt (IsNormalOctal model s) (IsNormalUnprefixed model s)
      → MatchBool alt (IsNormalOctal model kept) (IsNormalUnprefixed model kept)
  raised_form_kept alt h = grind (arith, octal_kept, unprefixed_kept)

  signed_form_kept : (fill : Bool) → MatchBool fill (IsNormalFilled s × (sign_len s ≡ 0)) (IsNormalSigned model s)
      → MatchBool fill (IsNormalFilled kept × (sign_len kept ≡ 0)) (IsNormalSigned model kept)
  signed_form_kept fill h = grind (arith, filled_kept, signed_kept)

  unsigned_form_kept : (a : Alternative) → HasUnsignedForm model a s → HasUnsignedForm model a kept
  unsigned_form_kept a h = grind (arith, unprefixed_kept, raised_form_kept, prefixed_form_kept)

  form_kept : (k : Kind) → HasNormalForm model k s → HasNormalForm model k kept
  form_kept k h = grind (arith, signed_form_kept, unsigned_form_kept, string_kept)

  module _ (parts : HasPlainParts s) where
    letters_normal : HasNormalForm model (kind_of s.conv) s → IsNormal model kept
    letters_normal form =
        let same = kept_kind s.conv in
        record {
          defined = record { width = parts.defined.width; allowed = refused_kept model s.flags s.width s.precision s.length s.conv parts.defined.allowed };
          no_group = parts.no_group;
          length = ap (λ r. r.kept) (kept_row model s.length);
          conv = kept_conv_twice s.conv;
          no_plus = λ e. absurd (let none = parts.no_plus in cc);
          no_space = λ e. absurd (let none = parts.no_space in cc);
          precision = λ e. rw same (parts.precision e);
          form = subst (λ k. HasNormalForm model k kept) (sym same) (form_kept (kind_of s.conv) form);
        }

    -- a number prints the same with other letters
    letters_carried : (text : Bool) → is_text s.conv ≡ text → Carries model s (itself model kept)
    letters_carried true is = λ argument inner typed p. subst (Prints model s argument) (sym (append-nil inner))
        (subst (λ d. Prints model d argument inner) (own_letters model s s.conv parts.defined.allowed refl is) p)
    letters_carried false is = carries model s (itself model kept) is (kept_text s.conv ∙ is) (kept_sign s.conv) (kept_bits model s.length)
        (λ v fits. ap (field s) (value_kept model s.flags s.width s.precision s.length s.conv v) ∙ sym (append-nil _))

    letters_reduced : IsNormal model kept → IsReducedTo model s (itself model kept)
    letters_reduced normal = record {
      normal = (refl, normal);
      same_type = kept_type model s.conv s.length;
      prints = prints_reduced model s (itself model kept) (kept_type model s.conv s.length) (letters_carried (is_text s.conv) refl);
      silent = λ e. cc;
      few = omega arith;
    }

    -- `%.0s` isn't normal
    not_silent : HasNormalForm model (kind_of s.conv) s → s ≢ silent
    not_silent form is = (subst (λ d. HasNormalForm model (kind_of d.conv) d) is form).shows_some refl

    pub letters_change : HasNormalForm model (kind_of s.conv) s → IsReduction model s (itself model kept)
    letters_change form = record {
      same = letters_reduced (letters_normal form);
      kept = λ h. rw (h.length, h.conv) refl;
      silent = λ is. absurd (not_silent form is);
    }

    abbrev no_field : Padding
    no_field = record (padding_of s) { width = 0 }

    written : (w : Option ℕ) → 2 ≤ unwrap_or w 0 → kept_precision (unwrap_or w 0) ≡ w
    written w some = grind arith

    -- a precision does what the flag `0` does in a field
    pub filled_change : is_text s.conv ≡ false → is_signed s.conv ≡ false → s.flags ≡ with_flag no_flags Zero → s.precision ≡ None
        → 2 ≤ width_of s → width_of s ≤ digits_at_most model s → IsReduction model s (itself model (as_precision model s))
    filled_change text unsigned flags precision some most =
        let idle = no_width (padding_of s) (width_of s) (omega arith) in
        let filled = filled_reduced model s parts.defined text unsigned flags precision some most no_field idle in
        let core : padded_core model s no_field no_flags (kept_precision (width_of s)) ≡ itself model (as_precision model s) =
        rw (written s.width some, flags) refl in
        record {
          same = rw core at filled.reduced;
          kept = λ h. absurd (filled_not_normal model s parts.defined text unsigned flags precision some most no_field idle h);
          silent = λ is. absurd (let other : false ≡ true = sym text ∙ ap (λ d. is_text d.conv) is in cc);
        }
