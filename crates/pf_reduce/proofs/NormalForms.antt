-- Cores without a sign that are normal, in each data model.
use Rattle.std.proofs.Common.{◌≡◌, ◌≢◌, ℕ, ◌+◌, ◌<◌, ◌≤◌, max, Bool, true, false, Option, Some, None, refl, sym, ap, ◌∙◌, subst, arith}
use Rattle.pf_values.specs.declared.bases.Alternative.TheVariants.{Prefixed}
use Rattle.pf_values.specs.declared.conversions.Conv.{Conv}
use Rattle.pf_values.specs.declared.flags.Flag.TheVariants.{Alt, Group, Minus, Plus, Space, Zero}
use Rattle.pf_values.specs.declared.flags.FlagSet.{FlagSet}
use Rattle.pf_values.specs.declared.lengths.Length.{Length}
use Rattle.pf_values.specs.declared.limits.TheConstants.{MAX_NUMBER}
use Rattle.pf_values.specs.declared.models.Model.{Model}
use Rattle.pf_values.specs.meaning.Conversions.{has_alternative_form, is_octal, is_signed, is_text, kept_conv, kind_of}
use Rattle.pf_values.specs.meaning.DataModel.{bits_under, kept_length, most_digits}
use Rattle.pf_values.specs.meaning.Defined.{is_above_limit, refused_as}
use Rattle.pf_values.specs.meaning.Flags.{has, no_flags, with_flag}
use Rattle.pf_values.specs.meaning.Normal.{HasNormalForm, HasPrefixedForm, HasUnsignedForm, IsNormal, IsNormalOctal, IsNormalUnprefixed, digits_at_most}
use Rattle.pf_values.specs.meaning.Normal.{precision_of}
use Rattle.pf_values.specs.meaning.Specification.{Specification, width_of}
use Rattle.pf_values.specs.Directives.{specification_of}
use Rattle.pf_values.proofs.DataModelLemmas.{kept_row}
use Rattle.pf_reduce.specs.declared.padding.Padding.{Padding}
use Rattle.pf_reduce.specs.Cores.{core_of_parts, kept_precision, with_side}
use Rattle.pf_reduce.specs.Prefixes.{is_prefixed}
use Rattle.pf_reduce.proofs.CarriedIntegers.{kept_bits, width_is}
use Rattle.pf_reduce.proofs.NormalCores.{no_precision_1, precision_within, some_width, width_within}
use Rattle.pf_reduce.proofs.Precisions.{written_is}

-- flags with which no sign is printed
pub record HasNoSign (flags : FlagSet) : Type 0 where
  pub group : has flags Group ≡ false
  pub plus : has flags Plus ≡ false
  pub space : has flags Space ≡ false

-- `u o x X b`
pub record IsUnsigned (conv : Conv) : Type 0 where
  pub text : is_text conv ≡ false
  pub sign : is_signed conv ≡ false

kept_unsigned : (conv : Conv) → is_signed conv ≡ false → kept_conv conv ≡ conv
kept_unsigned conv h = grind arith

allowed : (conv : Conv) (flags : FlagSet) (w : ℕ) (precision : Option ℕ) (length : Length) → IsUnsigned conv
    → (has_alternative_form conv ≡ false → has flags Alt ≡ false) → has flags Group ≡ false
    → w ≤ MAX_NUMBER → is_above_limit precision ≡ false → refused_as (specification_of flags (Some w) precision length conv) ≡ None
allowed conv flags w precision length is alt group few small = grind (arith, width_within)

-- a core of an unsigned conversion, by its form
module _ (model : Model) (s : Specification) (p : Padding) (flags : FlagSet) (precision : Option ℕ) (is : IsUnsigned s.conv) where
  abbrev core : Specification
  core = core_of_parts model s p flags precision

  made_normal : HasNoSign (with_side p.left flags) → (has_alternative_form s.conv ≡ false → has (with_side p.left flags) Alt ≡ false) → p.width ≤ MAX_NUMBER
      → is_above_limit precision ≡ false → precision ≢ Some 1
      → HasNormalForm model (kind_of s.conv) core → IsNormal model core
  made_normal unsigned alt few small some form =
      let conv = kept_unsigned s.conv is.sign in
      record {
        defined = record {
          width = some_width p.width;
          allowed = rw conv
              (allowed s.conv (with_side p.left flags) p.width precision (kept_length model s.length) is alt unsigned.group few small);
        };
        no_group = unsigned.group;
        length = ap (λ r. r.kept) (kept_row model s.length);
        conv = ap kept_conv conv;
        no_plus = λ g. absurd (let e = unsigned.plus in cc);
        no_space = λ g. absurd (let e = unsigned.space in cc);
        precision = λ e. absurd (some e);
        form = subst (λ c. HasNormalForm model (kind_of c) core) (sym conv) form;
      }

pub bare_flags : (left : Bool) → HasNoSign (with_side left no_flags)
bare_flags left = grind arith

alt_flags : (left : Bool) → HasNoSign (with_side left (with_flag no_flags Alt))
alt_flags left = grind arith

filled_flags : (left : Bool) → HasNoSign (with_side left (with_flag (with_flag no_flags Alt) Zero))
filled_flags left = grind arith

-- which forms they have
prefixed_form : (model : Model) (s : Specification) (alt zero : Bool) → has s.flags Alt ≡ alt → has s.flags Zero ≡ zero → HasPrefixedForm model alt zero s
    → HasUnsignedForm model Prefixed s
prefixed_form model s alt zero e f h = subst (λ a. HasPrefixedForm model a (has s.flags Zero) s) (sym e) (subst (λ z. HasPrefixedForm model alt z s) (sym f) h)

has_unprefixed : (model : Model) (conv : Conv) (s : Specification) → IsUnsigned conv → has s.flags Alt ≡ false → IsNormalUnprefixed model s
    → HasNormalForm model (kind_of conv) s
has_unprefixed model conv s is alt h = grind arith

has_octal : (model : Model) (conv : Conv) (s : Specification) → is_octal conv ≡ true → has s.flags Alt ≡ true → IsNormalOctal model s
    → HasNormalForm model (kind_of conv) s
has_octal model conv s is alt h = grind arith

has_prefixed : (model : Model) (conv : Conv) (s : Specification) (zero : Bool) → is_prefixed conv ≡ true → has s.flags Alt ≡ true → has s.flags Zero ≡ zero
    → HasPrefixedForm model true zero s → HasNormalForm model (kind_of conv) s
has_prefixed model conv s zero is alt e h = grind arith

-- the numbers of such a core
core_digits : (model : Model) (s : Specification) (p : Padding) (flags : FlagSet) (precision : Option ℕ) → is_signed s.conv ≡ false
    → digits_at_most model (core_of_parts model s p flags precision) ≡ digits_at_most model s
core_digits model s p flags precision sign = ap (λ b. most_digits (kept_conv s.conv) b) (kept_bits model s.length)
    ∙ ap (λ c. most_digits c (bits_under model s.length)) (kept_unsigned s.conv sign)

unsigned_of : (conv : Conv) (raises : is_octal conv ≡ true) → IsUnsigned conv
unsigned_of conv e = grind arith

pub unsigned_with_prefix : (conv : Conv) → is_prefixed conv ≡ true → IsUnsigned conv
unsigned_with_prefix conv e = grind arith

octal_alternative : (conv : Conv) → is_octal conv ≡ true → has_alternative_form conv ≡ true
octal_alternative conv e = grind arith

prefixed_alternative : (conv : Conv) → is_prefixed conv ≡ true → has_alternative_form conv ≡ true
prefixed_alternative conv e = grind arith

pub side_flags : (left : Bool) (flags : FlagSet) → (has flags Minus ≡ false)
    → (has (with_side left flags) Minus ≡ left) × (has (with_side left flags) Alt ≡ has flags Alt) × (has (with_side left flags) Zero ≡ has flags Zero)
side_flags left flags e = grind arith

module _ (model : Model) (s : Specification) (p : Padding) (precision : ℕ) where
  -- digits alone
  pub normal_unprefixed : is_text s.conv ≡ false → is_signed s.conv ≡ false → (p.width ≤ MAX_NUMBER) × (precision ≤ MAX_NUMBER)
      → precision ≤ digits_at_most model s
      → (0 < p.width → precision < p.width) → p.width ≤ digits_at_most model s → (p.left ≡ true → 1 < p.width)
      → IsNormal model (core_of_parts model s p no_flags (kept_precision precision))
  normal_unprefixed text sign limit few least most left =
      let t : Specification = core_of_parts model s p no_flags (kept_precision precision) in
      let is : IsUnsigned s.conv = record { text = text; sign = sign } in
      let side = side_flags p.left no_flags refl in
      let w : width_of t ≡ p.width = width_is p.width in
      let q : precision_of t ≡ precision = written_is precision in
      let d : digits_at_most model t ≡ digits_at_most model s = core_digits model s p no_flags (kept_precision precision) sign in
      made_normal model s p no_flags (kept_precision precision) is (bare_flags p.left) (λ none. side.1) limit.0 (precision_within precision limit.1)
      (no_precision_1 precision)
      (has_unprefixed model s.conv t is side.1 (record {
        not_filled = side.2;
        precision = omega (arith, q, d, few);
        least = λ some. let m = least (omega (arith, w, some)) in omega (arith, w, q, m);
        most = omega (arith, w, d, most);
        left = λ l. let m = left (sym side.0 ∙ l) in (omega (arith, w, m), λ none. omega (arith, w, m));
      }))

  -- octal digits that begin with 0
  pub normal_octal : is_octal s.conv ≡ true → (p.width ≤ MAX_NUMBER) × (precision ≤ MAX_NUMBER) → p.left ≡ false → 1 ≤ precision
      → precision ≤ digits_at_most model s
      → precision < p.width → p.width ≤ digits_at_most model s + 1 → IsNormal model
      (core_of_parts model s p (with_flag no_flags Alt) (kept_precision precision))
  normal_octal octal limit right some few least most =
      let flags : FlagSet = with_flag no_flags Alt in
      let t : Specification = core_of_parts model s p flags (kept_precision precision) in
      let is = unsigned_of s.conv octal in
      let side = side_flags p.left flags refl in
      let w : width_of t ≡ p.width = width_is p.width in
      let q : precision_of t ≡ precision = written_is precision in
      let d : digits_at_most model t ≡ digits_at_most model s = core_digits model s p flags (kept_precision precision) is.sign in
      made_normal model s p flags (kept_precision precision) is (alt_flags p.left) (λ none. absurd (let some = octal_alternative s.conv octal in cc)) limit.0
      (precision_within precision limit.1) (no_precision_1 precision)
      (has_octal model s.conv t octal side.1 (record {
        right = side.0 ∙ right;
        not_filled = side.2;
        some_digit = omega (arith, q, some);
        precision = omega (arith, q, d, few);
        least = omega (arith, w, q, least);
        most = omega (arith, w, d, most);
      }))

  -- digits after a prefix, not filled
  pub normal_prefixed : is_prefixed s.conv ≡ true → (p.width ≤ MAX_NUMBER) × (precision ≤ MAX_NUMBER) → (0 < p.width → precision < p.width)
      → p.width ≤ 2 + max precision (digits_at_most model s)
      → (p.left ≡ true → (0 < p.width) × (precision ≡ 0 → 3 < p.width))
      → IsNormal model (core_of_parts model s p (with_flag no_flags Alt) (kept_precision precision))
  normal_prefixed prefixed limit least most left =
      let flags : FlagSet = with_flag no_flags Alt in
      let t : Specification = core_of_parts model s p flags (kept_precision precision) in
      let is = unsigned_with_prefix s.conv prefixed in
      let side = side_flags p.left flags refl in
      let w : width_of t ≡ p.width = width_is p.width in
      let q : precision_of t ≡ precision = written_is precision in
      let d : digits_at_most model t ≡ digits_at_most model s = core_digits model s p flags (kept_precision precision) is.sign in
      made_normal model s p flags (kept_precision precision) is (alt_flags p.left)
      (λ none. absurd (let some = prefixed_alternative s.conv prefixed in cc)) limit.0 (precision_within precision limit.1) (no_precision_1 precision)
      (has_prefixed model s.conv t false prefixed side.1 side.2 (record {
        least = λ some. let m = least (omega (arith, w, some)) in omega (arith, w, q, m);
        most = omega (arith, w, q, d, most);
        left = λ l. let m = left (sym side.0 ∙ l) in let some = m.0 in
            (omega (arith, w, some), λ none. let long = m.1 (omega (arith, q, none)) in omega (arith, w, long));
      }))

-- filled with zeros after a prefix
pub normal_filled : (model : Model) (s : Specification) (p : Padding) → is_prefixed s.conv ≡ true → p.width ≤ MAX_NUMBER → p.left ≡ false → 2 ≤ p.width
    → IsNormal model (core_of_parts model s p (with_flag (with_flag no_flags Alt) Zero) None)
normal_filled model s p prefixed few right wide =
    let flags : FlagSet = with_flag (with_flag no_flags Alt) Zero in
    let t : Specification = core_of_parts model s p flags None in
    let side = side_flags p.left flags refl in
    let w : width_of t ≡ p.width = width_is p.width in
    made_normal model s p flags None (unsigned_with_prefix s.conv prefixed) (filled_flags p.left)
    (λ none. absurd (let some = prefixed_alternative s.conv prefixed in cc)) few refl (λ e. cc)
    (has_prefixed model s.conv t true prefixed side.1 side.2 (record { right = side.0 ∙ right; no_precision = refl; width = omega (arith, w, wide) }))
