-- Cores with a sign that are normal, in each data model.
use Rattle.std.proofs.Common.{◌≡◌, ◌≢◌, ℕ, ◌+◌, ◌<◌, ◌≤◌, max, Bool, true, false, Some, None, refl, sym, ap, ◌∙◌, arith, rules}
use Rattle.std.proofs.lemmas.Bool.Decides.{nat_tests}
use Rattle.pf_values.specs.declared.conversions.Conv.{Conv}
use Rattle.pf_values.specs.declared.conversions.Conv.TheVariants.{D}
use Rattle.pf_values.specs.declared.flags.Flag.TheVariants.{Alt, Minus, Plus, Space, Zero, Group}
use Rattle.pf_values.specs.declared.lengths.Length.{Length}
use Rattle.pf_values.specs.declared.limits.TheConstants.{MAX_NUMBER}
use Rattle.pf_values.specs.declared.models.Model.{Model}
use Rattle.pf_values.specs.meaning.Conversions.{is_signed, kept_conv}
use Rattle.pf_values.specs.meaning.DataModel.{Bits, bits_under, kept_length, most_digits}
use Rattle.pf_values.specs.meaning.Defined.{is_above_limit, refused_as}
use Rattle.pf_values.specs.meaning.Flags.{has}
use Rattle.pf_values.specs.meaning.Normal.{IsNormal, IsNormalSigned, digits_at_most, sign_len}
use Rattle.pf_values.specs.meaning.Specification.{Specification}
use Rattle.pf_values.specs.Directives.{specification_of, width_given}
use Rattle.pf_values.proofs.DataModelLemmas.{kept_row}
use Rattle.pf_reduce.specs.declared.padding.Padding.{Padding}
use Rattle.pf_reduce.specs.declared.signs.Sign.{Sign}
use Rattle.pf_reduce.specs.declared.signs.Sign.TheVariants as signs
use Rattle.pf_reduce.specs.Cores.{core_of_parts, kept_precision, with_side}
use Rattle.pf_reduce.specs.Signs.{sign_flags, sign_length}
use Rattle.pf_reduce.proofs.CarriedIntegers.{kept_bits, width_is}
use Rattle.pf_reduce.proofs.Precisions.{written_is}

-- what a sign and a side are by their flags
record HasSignFlags (left : Bool) (sign : Sign) (s : Specification) : Type 0 where
  minus : has s.flags Minus ≡ left
  no_zero : has s.flags Zero ≡ false
  no_alt : has s.flags Alt ≡ false
  no_group : has s.flags Group ≡ false
  one_sign : has s.flags Plus ≡ true → has s.flags Space ≡ false
  len : sign_len s ≡ sign_length sign
  space : has s.flags Space ≡ true → sign ≡ signs.Space
  none : sign_len s ≡ 0 → sign ≡ signs.None
  no_plus : has s.flags Plus ≡ false → sign ≢ signs.Plus

sign_flags_are : (left : Bool) (sign : Sign) (s : Specification)
    → s.flags ≡ with_side left (sign_flags sign) → HasSignFlags left sign s
sign_flags_are left sign s e = grind arith

pub width_within : (w : ℕ) → w ≤ MAX_NUMBER → is_above_limit (width_given (Some w)) ≡ false
width_within w h = grind (arith, nat_tests)

pub precision_within : (p : ℕ) → p ≤ MAX_NUMBER → is_above_limit (kept_precision p) ≡ false
precision_within p h = grind (arith, nat_tests)

pub some_width : (w : ℕ) → width_given (Some w) ≢ Some 0
some_width w e = grind arith

pub no_precision_1 : (p : ℕ) → kept_precision p ≢ Some 1
no_precision_1 p e = grind arith

pub kept_signed : (conv : Conv) → is_signed conv ≡ true → kept_conv conv ≡ D
kept_signed conv e = grind arith

digits_signed : (conv : Conv) → is_signed conv ≡ true
    → (b : Bits) → most_digits conv b ≡ most_digits D b
digits_signed conv e b = grind arith

-- such a directive, of the letters that are kept
module _ (model : Model) (p : Padding) (sign : Sign) (precision : ℕ) (length : Length)
    (same : kept_length model length ≡ length)
    (limit : (p.width ≤ MAX_NUMBER) × (precision ≤ MAX_NUMBER)) where
  abbrev made : Specification
  made =
      specification_of (with_side p.left (sign_flags sign)) (Some p.width) (kept_precision precision)
      length D

  flags_are : HasSignFlags p.left sign made
  flags_are = sign_flags_are p.left sign made refl

  allowed : refused_as made ≡ None
  allowed =
      rw (width_within p.width limit.0, precision_within precision limit.1, flags_are.no_alt) refl

  made_normal : IsNormalSigned model made → IsNormal model made
  made_normal h =
      record {
        defined = record { width = some_width p.width; allowed = allowed };
        no_group = search (rules, flags_are.no_group);
        length = same;
        conv = refl;
        no_plus = λ g. search rules;
        no_space = λ g. search rules;
        precision = λ e. absurd (no_precision_1 precision e);
        form = rw flags_are.no_zero h;
      }

  made_signed : (digits : ℕ) → digits_at_most model made ≡ digits
      → (0 < p.width → sign_length sign + precision < p.width)
      → p.width ≤ 1 + max precision digits
      → (p.left ≡ false → sign ≡ signs.Space → p.width ≢ 1 + max precision digits)
      → (p.left ≡ false → sign ≡ signs.None → digits ≤ precision
      → p.width ≢ 1 + max precision digits)
      → (p.left ≡ true → (0 < p.width)
      × (sign ≢ signs.Plus → precision ≡ 0 → sign_length sign + 1 < p.width))
      → IsNormalSigned model made
  made_signed digits d least most space none left =
      let f = flags_are in
      let w = width_is p.width in
      let q = written_is precision in
      record {
        one_sign = f.one_sign;
        least = rw (w, q, f.len) least;
        most = rw (w, q, d) most;
        right_space = rw (w, q, d, f.minus) (λ r h. space r (f.space h));
        right_bare = rw (w, q, d, f.minus) (λ r h. none r (f.none h));
        left = rw (w, q, f.len, f.minus) (λ l. ((left l).0, λ h. (left l).1 (f.no_plus h)));
      }

-- digits after a sign
pub normal_signed : (model : Model) (s : Specification) (p : Padding) (sign : Sign) (precision : ℕ)
    → is_signed s.conv ≡ true → (p.width ≤ MAX_NUMBER) × (precision ≤ MAX_NUMBER)
    → (0 < p.width → sign_length sign + precision < p.width)
    → p.width ≤ 1 + max precision (digits_at_most model s)
    → (p.left ≡ false → sign ≡ signs.Space → p.width ≢ 1 + max precision (digits_at_most model s))
    → (p.left ≡ false → sign ≡ signs.None → digits_at_most model s ≤ precision
    → p.width ≢ 1 + max precision (digits_at_most model s))
    → (p.left ≡ true → (0 < p.width)
    × (sign ≢ signs.Plus → precision ≡ 0 → sign_length sign + 1 < p.width))
    → IsNormal model (core_of_parts model s p (sign_flags sign) (kept_precision precision))
normal_signed model s p sign precision signed limit least most space none left =
    let length = kept_length model s.length in
    let same = ap (λ r. r.kept) (kept_row model s.length) in
    let digits : most_digits D (bits_under model length) ≡ digits_at_most model s =
    ap (most_digits D) (kept_bits model s.length) ∙ sym (digits_signed s.conv signed (bits_under model s.length)) in
    rw (kept_signed s.conv signed) (made_normal model p sign precision length same limit
    (made_signed model p sign precision length same limit (digits_at_most model s) digits least most space none left))
