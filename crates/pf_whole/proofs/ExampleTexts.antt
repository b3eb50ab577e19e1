-- Texts of the examples, and how they are read.
use Rattle.std.proofs.Common.{◌≡◌, ℕ, zero, suc, ◌<◌, ◌≤◌, Bool, true, false, List, [], ◌∷◌, ◌++◌, codes, map, refl, sym, ap, ◌∙◌, arith}
use Rattle.std.proofs.lemmas.List.{append-nil}
use Rattle.std.specs.Prelude.{Option, Some, None, decimal, flat_map}
use Rattle.std.specs.Fmt.{digit_glyph}
use Rattle.std.specs.Int.Digits.{digits_of}
use Rattle.std.specs.List.{AllByRecursion}
use Rattle.pf_values.specs.declared.flags.Flag.{Flag}
use Rattle.pf_values.specs.declared.limits.TheConstants.{MAX_NUMBER}
use Rattle.pf_values.specs.declared.models.Model.{Model}
use Rattle.pf_values.specs.meaning.Canonical.{item_spelling}
use Rattle.pf_values.specs.meaning.Defined.{IsDefined}
use Rattle.pf_values.specs.meaning.Digits.{place_sum}
use Rattle.pf_values.specs.meaning.Flags.{flag_byte, flag_set}
use Rattle.pf_values.specs.meaning.Items.{Byte, Directive, Reads}
use Rattle.pf_values.specs.meaning.Normal.{silent}
use Rattle.pf_values.specs.meaning.Specification.{Specification}
use Rattle.pf_values.specs.meaning.Spelling.{spelling_of}
use Rattle.pf_values.specs.meaning.Text.{Text}
use Rattle.pf_text.proofs.CanonicalRunLemmas.{byte_read}
use Rattle.pf_text.proofs.ReadBack.{decimal_is, least_digits_are, spelled_read}
use Rattle.pf_compare.proofs.ReductionLemmas.{bytes_canonical}
use Rattle.pf_posix.specs.declared.conversions.WholeConv.{WholeConv}
use Rattle.pf_posix.specs.declared.conversions.WholeLength.{WholeLength}
use Rattle.pf_posix.specs.Defined.{IsWholeDefined}
use Rattle.pf_posix.specs.Specifications.{Amount, Given, Fetched, WholeSpecification, conversion_letter, modifier_letters}
use Rattle.pf_posix.specs.Spelling.{SpellsWholePrecision, SpellsWholeWidth}
use Rattle.pf_posix.specs.Opaque.{OpaqueErrno, OpaqueItem, OpaqueSpecification, SpellsOpaqueItem, is_opaque}
use Rattle.pf_posix.specs.Items.{errno}
use Rattle.pf_posix.specs.Stretches.{Last, Before, ReadsStretches}
use Rattle.pf_posix.proofs.SpecificationsOnce.{made}
use Rattle.pf_whole.specs.meaning.NormalSpellings.{normal_spelling}
use Rattle.pf_whole.specs.meaning.WholeCanonical.{IsCanonicalStretch, IsWholeCanonicalOf}

-- a width, and a text that spells it
pub record WidthText : Type 0 where
  pub amount : Option Amount
  pub text : Text
  pub spelled : SpellsWholeWidth text None amount

abbrev pub no_width : WidthText
no_width = record { amount = None; text = []; spelled = refl }

abbrev pub star_width : WidthText
star_width = record { amount = Some (Fetched None); text = codes "*"; spelled = record { digits = []; digits_are = refl; numbering = refl; whole = refl } }

pub width_spelled : (n : ℕ) → 0 < n → n ≤ MAX_NUMBER → SpellsWholeWidth (decimal n) None (Some (Given n))
width_spelled n some few = record { some = some; numeral = (digits_of 10 n, least_digits_are n some, decimal_is n some (omega (arith, few))); within = few }

abbrev pub given_width : (n : ℕ) → 0 < n → n ≤ MAX_NUMBER → WidthText
given_width n some few = record { amount = Some (Given n); text = decimal n; spelled = width_spelled n some few }

-- a precision, and a text that spells it
pub record PrecisionText : Type 0 where
  pub amount : Option Amount
  pub text : Text
  pub spelled : SpellsWholePrecision text None amount

abbrev pub no_precision : PrecisionText
no_precision = record { amount = None; text = []; spelled = refl }

abbrev pub star_precision : PrecisionText
star_precision = record { amount = Some (Fetched None); text = codes ".*"; spelled = (codes "*", star_width.spelled, refl) }

-- a point and these digits
abbrev pub given_precision : (ds : List ℕ) → AllByRecursion (λ d. d < 10) ds → place_sum 10 ds ≤ MAX_NUMBER → PrecisionText
given_precision ds below few = record {
  amount = Some (Given (place_sum 10 ds));
  text = 46 ∷ map (digit_glyph false) ds;
  spelled = ((ds, record { below = below; sum = refl }, refl), few);
}

-- the specification with these parts, and its text
abbrev pub parts : List Flag → WidthText → PrecisionText → WholeLength → WholeConv → WholeSpecification
parts flags width precision modifier conversion = made None (flag_set flags) width.amount precision.amount modifier conversion

abbrev pub spelling : List Flag → WidthText → PrecisionText → WholeLength → WholeConv → Text
spelling flags width precision modifier conversion =
    ((37 ∷ map flag_byte flags ++ width.text) ++ precision.text) ++ modifier_letters modifier ++ conversion_letter conversion ∷ []

abbrev pub opaque_parts : List Flag → WidthText → PrecisionText → WholeLength → WholeConv → OpaqueItem
opaque_parts flags width precision modifier conversion = OpaqueSpecification (parts flags width precision modifier conversion)

-- an opaque directive or `%m`, and its normal spelling
pub record HasNormal (model : Model) (t c : Text) : Type 0 where
  pub s : OpaqueItem
  pub spelled : SpellsOpaqueItem t s
  pub normal : normal_spelling model s ≡ c

unfoldable pub opaque : (model : Model) (flags : List Flag) (width : WidthText) (precision : PrecisionText) (modifier : WholeLength) (conversion : WholeConv)
    → IsWholeDefined (parts flags width precision modifier conversion) → is_opaque (parts flags width precision modifier conversion) ≡ true
    → HasNormal model (spelling flags width precision modifier conversion) (normal_spelling model (opaque_parts flags width precision modifier conversion))
opaque model flags width precision modifier conversion defined is = record {
  s = opaque_parts flags width precision modifier conversion;
  spelled = record {
    spelled = record {
      before = (37 ∷ map flag_byte flags ++ width.text) ++ precision.text;
      before_is = record {
        before = 37 ∷ map flag_byte flags ++ width.text;
        text = precision.text;
        before_is = record {
          before = 37 ∷ map flag_byte flags;
          text = width.text;
          before_is = record { number = []; flags = flags; number_is = refl; set_is = refl; whole = refl };
          width_is = width.spelled;
          whole = refl;
        };
        precision_is = precision.spelled;
        whole = refl;
      };
      whole = refl;
    };
    defined = defined;
    unnumbered = refl;
    opaque = is;
  };
  normal = refl;
}

pub errno_kept : (model : Model) → HasNormal model errno errno
errno_kept model = record { s = OpaqueErrno; spelled = refl; normal = refl }

-- a stretch of bytes is its own canonical text, where `%` is written `%%`
abbrev pub written : Text → Text
written bytes = flat_map item_spelling (map Byte bytes)

abbrev pub no_zero : Text → Bool
no_zero [] = true
no_zero (zero ∷ bytes) = false
no_zero (suc n ∷ bytes) = no_zero bytes

pub bytes_read : (bytes : Text) → no_zero bytes ≡ true → Reads (written bytes) (map Byte bytes)
bytes_read [] e = refl
bytes_read (zero ∷ bytes) e = cc
bytes_read (suc n ∷ bytes) e = (item_spelling (Byte (suc n)), written bytes, byte_read (suc n) (λ no. cc), bytes_read bytes e, refl)

pub bytes_kept : (model : Model) (bytes : Text) → no_zero bytes ≡ true → IsCanonicalStretch model (map Byte bytes) (written bytes)
bytes_kept model bytes e = record {
  own = map Byte bytes;
  canonical = record { reads = bytes_read bytes e; canonical = bytes_canonical model bytes; whole = refl };
  alike = record { same_types = refl; same_bytes = λ args out typed. (λ p. p, λ p. p) };
}

-- bytes that end a text
pub ends : {model : Model} (bytes : Text) → no_zero bytes ≡ true → IsWholeCanonicalOf model (written bytes) (written bytes)
ends {model} bytes e = record { stretches = Last (map Byte bytes); reads = bytes_read bytes e; together = bytes_kept model bytes e }

-- bytes, an opaque directive, and the rest of a text
pub then_on : {model : Model} {t c u d : Text} (bytes : Text) → no_zero bytes ≡ true → HasNormal model t c → IsWholeCanonicalOf model u d
    → IsWholeCanonicalOf model ((written bytes ++ t) ++ u) ((written bytes ++ c) ++ d)
then_on {model} {t} {c} {u} {d} bytes e directive rest = record {
  stretches = Before (map Byte bytes) directive.s rest.stretches;
  reads = (written bytes, t, u, bytes_read bytes e, directive.spelled, rest.reads, refl);
  together = (written bytes, d, bytes_kept model bytes e, rest.together, ap (λ n. (written bytes ++ n) ++ d) (sym directive.normal));
}

pub silent_defined : IsDefined silent
silent_defined = record { width = λ e. cc; allowed = refl }

-- a directive of the profile before an opaque one, which ends the text
pub read_before : {model : Model} {u c : Text} (s : Specification) (t : Text) → IsDefined s → (directive : HasNormal model u c) → t ≡ spelling_of s ++ u
    → ReadsStretches t (Before (Directive s ∷ []) directive.s (Last []))
read_before {model} {u} {c} s t defined directive e = (
  spelling_of s,
  u,
  [],
  (spelling_of s, [], (spelled_read s defined, defined), refl, sym (append-nil (spelling_of s))),
  directive.spelled,
  refl,
  e ∙ sym (append-nil (spelling_of s ++ u)),
)
