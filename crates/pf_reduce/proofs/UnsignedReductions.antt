-- Each directive that prints a number without a sign has a reduction.
use Rattle.std.proofs.Common.{◌≡◌, ℕ, ℤ, ◌+◌, ◌-◌, ◌<◌, ◌≤◌, max, Bool, true, false, None, replicate, refl, ap, ◌∙◌, arith, inl, inr, ◌++◌, sym}
use Rattle.std.specs.Prelude.{nat_abs, not, ◌&&◌, ◌⊎◌}
use Rattle.std.proofs.lemmas.Bool.{cases_lt}
use Rattle.pf_values.specs.declared.flags.Flag.TheVariants.{Alt, Minus, Zero}
use Rattle.pf_values.specs.declared.limits.TheConstants.{MAX_NUMBER}
use Rattle.pf_values.specs.declared.models.Model.{Model}
use Rattle.pf_values.specs.declared.bases.Alternative.{Alternative}
use Rattle.pf_values.specs.declared.bases.Alternative.TheVariants.{Undefined, Raised, Prefixed}
use Rattle.pf_values.specs.meaning.Bases.{raises_precision}
use Rattle.pf_values.specs.meaning.Conversions.{
  alternative_under,
  base_of,
  has_alternative_form,
  kind_of,
  is_octal,
  is_signed,
  is_text,
  prints_signed,
  prints_text,
}
use Rattle.pf_values.specs.meaning.Defined.{IsDefined}
use Rattle.pf_values.specs.meaning.Flags.{has, no_flags, with_flag}
use Rattle.pf_values.specs.meaning.Normal.{IsNormal, IsNormalOctal, digits_at_most, precision_of}
use Rattle.pf_values.specs.meaning.Printing.{is_zero_filled}
use Rattle.pf_values.specs.meaning.Specification.{Specification, width_of}
use Rattle.pf_values.specs.meaning.Text.{zero_digit}
use Rattle.pf_values.specs.Directives.{effective_precision}
use Rattle.pf_values.proofs.DefinedLemmas.{effective_limit, none_broken, width_limit}
use Rattle.pf_values.proofs.Printed.{count_of}
use Rattle.pf_values.proofs.PrintsOnce.{value_text}
use Rattle.pf_reduce.specs.declared.padding.Padding.{Padding}
use Rattle.pf_reduce.specs.Cores.{IsReducedAs, core_of_parts, kept_precision, padded_core}
use Rattle.pf_reduce.specs.Padded.{HasNoIdleWidth, IsNarrowedTo, HasHoistedZeros, IsRightIfUnseen, constants, padding_of, with_padding}
use Rattle.pf_reduce.specs.Prefixes.{is_prefixed, puts_prefix}
use Rattle.pf_reduce.specs.Reducing.{itself}
use Rattle.pf_reduce.specs.Signs.{unseen_width}
use Rattle.pf_reduce.proofs.Carried.{Reduction, made}
use Rattle.pf_reduce.proofs.Narrowing.{narrowed, not_wider, hoist_zeros, right_justify_if_unseen, without_idle}
use Rattle.pf_reduce.proofs.NormalForms.{normal_filled, normal_octal, normal_prefixed, normal_unprefixed}
use Rattle.pf_reduce.proofs.OwnCores.{
  alt_flags,
  bare_flags,
  beyond,
  octal_form,
  own_field,
  own_filled_prefixed,
  own_number,
  own_side,
  prefixed_form,
  prefixed_number,
  prefixed_unsigned,
  seen_before,
  seen_from,
  unfilled_precision,
  unprefixed_form,
}
use Rattle.pf_reduce.proofs.PrefixedNumbers.{prefixed_filled, prefixed_reduced, unseen_side}
use Rattle.pf_reduce.proofs.Precisions.{filled_right}
use Rattle.pf_reduce.proofs.UnprefixedNumbers.{
  IsOctal,
  beyond_most,
  digits_reduced,
  digits_text,
  length-digits_text,
  length-octal_text,
  octal,
  octal_count,
  octal_reduced,
  octal_split,
  octal_text,
  octal_value,
  one_or_none,
  split_zeros,
  unprefixed_value,
}

-- zeros are constant only where no width is left
apart : (left : Bool) (w p d a : ℕ) → a ≤ max p d → (a ≤ p → w ≡ 0) → (left ≡ true) ⊎ (w ≡ 0) ⊎ (p - d ≡ 0)
apart left w p d a few idle = grind arith

-- digits alone, by the steps that narrow the field
module _ (model : Model) (s : Specification) (defined : IsDefined s) (text : is_text s.conv ≡ false) (sign : is_signed s.conv ≡ false) where
  -- the zeros that are constant are past, and the side is seen
  pub digits_by : (p z : ℕ) (b c q : Padding) → p ≤ MAX_NUMBER → p - z ≤ digits_at_most model s → constants b + z ≤ MAX_NUMBER → b.width ≤ width_of s
      → b.width - z ≤ digits_at_most model s → (0 < b.width - z → p - z < b.width - z)
      → HasHoistedZeros b z c → IsRightIfUnseen c 1 q
      → ((v : ℤ) → count_of (base_of s.conv) (nat_abs v) ≤ digits_at_most model s → with_padding (padding_of s) (value_text s v) ≡ with_padding b
      (replicate z zero_digit ++ digits_text s.conv (p - z) (nat_abs v)))
      → (IsNormal model s → padded_core model s q no_flags (kept_precision (p - z)) ≡ itself model s)
      → IsReducedAs model s q no_flags (kept_precision (p - z))
  digits_by p z b c q few fewer constant narrow wide least past right same kept =
      let w = width_limit s defined in
      let normal : IsNormal model (core_of_parts model s q no_flags (kept_precision (p - z))) =
      normal_unprefixed model s q (p - z) text sign (omega (arith, right.width, past.width, narrow, w), omega (arith, few)) fewer
      (λ some. let l = least (omega (arith, right.width, past.width, some)) in omega (arith, right.width, past.width, l))
      (omega (arith, right.width, past.width, wide))
      (λ l. let seen = (right.wide l).1 in omega (arith, right.width, seen)) in
      record {
        normal = normal;
        reduced = digits_reduced model s q (p - z) text sign (refl, normal) (omega (arith, right.constant, past.constant, constant))
            (λ v count. same v count ∙ past.same _ ∙ right.same _ (one_or_none _ _));
        kept = kept;
      }

  -- none of the steps changes a normal directive
  unprefixed_own : has s.flags Alt ≡ false → (p d z : ℕ) (a b c q : Padding) → p ≡ effective_precision s 0 → d ≡ digits_at_most model s → z ≡ p - d
      → IsNarrowedTo (padding_of s) (max p d) a → HasNoIdleWidth a p b → HasHoistedZeros b z c → IsRightIfUnseen c 1 q
      → IsNormal model s → padded_core model s q no_flags (kept_precision (p - z)) ≡ itself model s
  unprefixed_own alt p d z a b c q p_is d_is z_is narrow field past right h =
      let form = unprefixed_form model s h text sign alt in
      let own = p_is ∙ unfilled_precision s 0 form.not_filled in
      let most = form.most in
      let fits = form.precision in
      let none : z ≡ 0 = omega (arith, z_is, d_is, own, fits) in
      let in_field : b.width ≡ width_of s = own_field (width_of s) (max p d) p _ _ narrow.width (omega (arith, d_is, most))
      (λ some. let least = form.least some in omega (arith, own, least)) field.idle field.kept in
      let width : c.width ≡ width_of s = omega (arith, past.width, none, in_field) in
      let left : c.left ≡ has s.flags Minus = past.left ∙ field.left ∙ narrow.left in
      let seen : c.left ≡ true → 1 < c.width = λ e. let least = beyond (precision_of s) (width_of s) (form.left (sym left ∙ e)) form.least in
      omega (arith, width, least) in
      own_number model s q no_flags (p - z) h text (bare_flags model s h sign alt form.not_filled) (omega (arith, none, own))
      (omega (arith, right.constant, past.constant, field.constant, narrow.constant, none, most, d_is))
      (right.width ∙ width) (own_side _ _ _ 1 right.wide right.right seen ∙ left)

  pub unprefixed_by : has s.flags Alt ≡ false → (p d z : ℕ) (a b c q : Padding) → p ≡ effective_precision s 0 → d ≡ digits_at_most model s → z ≡ p - d
      → IsNarrowedTo (padding_of s) (max p d) a → HasNoIdleWidth a p b → HasHoistedZeros b z c → IsRightIfUnseen c 1 q
      → IsReducedAs model s q no_flags (kept_precision (p - z))
  unprefixed_by alt p d z a b c q p_is d_is z_is narrow field past right =
      let w = width_limit s defined in
      let few = effective_limit s 0 defined in
      let left = not_wider a p b field in
      let wider = left.0 in
      digits_by p z b c q (omega (arith, p_is, few)) (omega (arith, d_is, z_is)) (omega (arith, field.constant, narrow.constant, w, few, p_is, z_is))
      (omega (arith, wider, narrow.width)) (omega (arith, wider, narrow.width, d_is, z_is))
      (λ some. let least = left.1 (omega (arith, some)) in omega (arith, wider, narrow.width, z_is, least, some)) past right (λ v count.
      let n = nat_abs v in
      let body = digits_text s.conv p n in
      let len = length-digits_text s.conv p n in
      ap (with_padding (padding_of s)) (unprefixed_value s v sign alt ∙ ap (λ k. digits_text s.conv k n) (sym p_is))
      ∙ narrow.same body (omega (arith, len, count, d_is))
      ∙ field.same body (omega (arith, len))
      ∙ ap (with_padding b) (split_zeros s.conv p z n _ (rw z_is (beyond_most p d (count_of (base_of s.conv) n) (omega (arith, count, d_is))))))
      (unprefixed_own alt p d z a b c q p_is d_is z_is narrow field past right)

  unprefixed : has s.flags Alt ≡ false → Reduction model s
  unprefixed alt =
      let p : ℕ = effective_precision s 0 in
      let d : ℕ = digits_at_most model s in
      let (a, narrow) = narrowed (has s.flags Minus) (width_of s) (max p d) in
      let (b, field) = without_idle a p in
      let past = hoist_zeros b (p - d) (apart b.left b.width p d a.width (omega (arith, narrow.width)) field.idle) in
      let (q, right) = right_justify_if_unseen (record b { zeros = b.zeros + (p - d); width = b.width - (p - d) }) 1 in
      made model s q no_flags (kept_precision (p - (p - d))) (unprefixed_by alt p d (p - d) a b _ q refl refl refl narrow field past right)

-- octal digits that begin with 0
module _ (model : Model) (s : Specification) (defined : IsDefined s) (raises : is_octal s.conv ≡ true) (alt : has s.flags Alt ≡ true) (p d : ℕ) (a b : Padding)
    (p_is : p ≡ max (effective_precision s 0) 1) (d_is : d ≡ digits_at_most model s)
    (narrow : IsNarrowedTo (padding_of s) (max p (d + 1)) a) (field : HasNoIdleWidth a p b) where
  abbrev e : IsOctal s.conv
  e = octal s.conv raises

  in_field : (v : ℤ) → count_of 8 (nat_abs v) ≤ digits_at_most model s → with_padding (padding_of s) (value_text s v) ≡ with_padding b
      (octal_text p (nat_abs v))
  in_field v count =
      let n = nat_abs v in
      let len = length-octal_text p n in
      ap (with_padding (padding_of s)) (octal_value s v e alt ∙ ap (λ k. octal_text k n) (sym p_is))
      ∙ narrow.same (octal_text p n) (omega (arith, len, count, d_is))
      ∙ field.same (octal_text p n) (omega (arith, len))

  -- a normal directive keeps its field, on the right
  module _ (h : IsNormal model s) where
    octal_is : IsNormalOctal model s
    octal_is = octal_form model s h e alt

    precision_own : p ≡ precision_of s
    precision_own = let given = unfilled_precision s 0 octal_is.not_filled in let some = octal_is.some_digit in omega (arith, p_is, given, some)

    width_own : b.width ≡ width_of s
    width_own = let most = octal_is.most in let least = octal_is.least in own_field (width_of s) (max p (d + 1)) p _ _ narrow.width
        (omega (arith, d_is, most)) (λ some. omega (arith, precision_own, least)) field.idle field.kept

    side_own : b.left ≡ has s.flags Minus
    side_own = field.left ∙ narrow.left

    own_octal : padded_core model s b (with_flag no_flags Alt) (kept_precision p) ≡ itself model s
    own_octal = let most = octal_is.most in own_number model s b (with_flag no_flags Alt) p h (ap prints_text e)
        (alt_flags model s h (ap prints_signed e) alt octal_is.not_filled) precision_own
        (omega (arith, field.constant, narrow.constant, most, d_is)) width_own side_own

    not_hoisted : (b.left ≡ true) ⊎ (b.width ≡ 0) → ⊥
    not_hoisted no_spaces = let least = octal_is.least in seen_before _ _ no_spaces (side_own ∙ octal_is.right) (omega (arith, width_own, least))

  -- spaces come before the first 0, which the core prints
  pub octal_after_spaces : b.left ≡ false → 0 < b.width → IsReducedAs model s b (with_flag no_flags Alt) (kept_precision p)
  octal_after_spaces right some =
      let w = width_limit s defined in
      let few = effective_limit s 0 defined in
      let left = not_wider a p b field in
      let wider = left.0 in
      let least = left.1 some in
      let normal : IsNormal model (core_of_parts model s b (with_flag no_flags Alt) (kept_precision p)) =
      normal_octal model s b p raises (omega (arith, wider, narrow.width, w), omega (arith, p_is, few)) right (omega (arith, p_is))
      (omega (arith, least, wider, narrow.width, d_is)) least (omega (arith, least, wider, narrow.width, d_is)) in
      record {
        normal = normal;
        reduced = octal_reduced model s b p e alt (refl, normal)
            (omega (arith, field.constant, narrow.constant, w)) in_field;
        kept = own_octal;
      }

  -- otherwise that is constant
  pub octal_after_hoisted : (b.left ≡ true) ⊎ (b.width ≡ 0) → (z : ℕ) (c q : Padding) → z ≡ 1 + (p - 1 - d) → HasHoistedZeros b z c → IsRightIfUnseen c 1 q
      → IsReducedAs model s q no_flags (kept_precision (p - z))
  octal_after_hoisted no_spaces z c q z_is past right =
      let w = width_limit s defined in
      let few = effective_limit s 0 defined in
      let left = not_wider a p b field in
      let wider = left.0 in
      digits_by model s defined (ap prints_text e) (ap prints_signed e) p z b c q (omega (arith, p_is, few)) (omega (arith, d_is, z_is, p_is))
      (omega (arith, field.constant, narrow.constant, w, few, p_is, z_is)) (omega (arith, wider, narrow.width))
      (omega (arith, wider, narrow.width, d_is, z_is, p_is))
      (λ some. let least = left.1 (omega (arith, some)) in omega (arith, wider, narrow.width, z_is, least, some)) past right (λ v count.
      let fewer = octal_count model s e (nat_abs v) count in
      in_field v fewer ∙ ap (with_padding b) (octal_split s.conv e p d z (nat_abs v) (omega (arith, p_is)) z_is (omega (arith, fewer, d_is))))
      (λ h. absurd (not_hoisted h no_spaces))

  past_zeros_of : (b.left ≡ true) ⊎ (b.width ≡ 0) → Reduction model s
  past_zeros_of no_spaces =
      let z : ℕ = 1 + (p - 1 - d) in
      let past = hoist_zeros b z (elim no_spaces [ inl l ↦ inl l | inr none ↦ inr (inl none) ]) in
      let (q, right) = right_justify_if_unseen (record b { zeros = b.zeros + z; width = b.width - z }) 1 in
      made model s q no_flags (kept_precision (p - z)) (octal_after_hoisted no_spaces z _ q refl past right)

  by_side : (left : Bool) → b.left ≡ left → Reduction model s
  by_side true l = past_zeros_of (inl l)
  by_side false l = elim (cases_lt 0 b.width) [
    | inl some ↦ made model s b (with_flag no_flags Alt) (kept_precision p) (octal_after_spaces l some)
    | inr none ↦ past_zeros_of (inr (omega (arith, none)))
  ]

raised : (model : Model) (s : Specification) → IsDefined s → is_octal s.conv ≡ true → has s.flags Alt ≡ true → Reduction model s
raised model s defined raises alt =
    let p : ℕ = max (effective_precision s 0) 1 in
    let d : ℕ = digits_at_most model s in
    let (a, narrow) = narrowed (has s.flags Minus) (width_of s) (max p (d + 1)) in
    let (b, field) = without_idle a p in
    by_side model s defined raises alt p d a b refl refl narrow field b.left refl

-- digits after a prefix
module _ (model : Model) (s : Specification) (defined : IsDefined s) (form : is_prefixed s.conv ≡ true) (alt : has s.flags Alt ≡ true) where
  -- the flag `0` is kept in a field of two bytes or more
  pub prefixed_filled_by : is_zero_filled s ≡ true → 2 ≤ width_of s → IsReducedAs model s (padding_of s) (with_flag (with_flag no_flags Alt) Zero) None
  prefixed_filled_by all wide =
      let normal = normal_filled model s (padding_of s) form (width_limit s defined) (filled_right s all) wide in
      record { normal = normal; reduced = prefixed_filled model s form alt all (refl, normal); kept = λ h. own_filled_prefixed model s h form alt all }

  -- none of the steps changes a normal directive
  prefixed_own : (p d : ℕ) (a b q : Padding) → (is_zero_filled s ≡ true → (1 ≤ 0) ⊎ (width_of s ≤ 1)) → p ≡ effective_precision s 0
      → d ≡ digits_at_most model s → IsNarrowedTo (padding_of s) (2 + max p d) a → HasNoIdleWidth a p b → IsRightIfUnseen b (unseen_width p 3) q
      → IsNormal model s → padded_core model s q (with_flag no_flags Alt) (kept_precision p) ≡ itself model s
  prefixed_own p d a b q idle p_is d_is narrow field right h =
      let forms = prefixed_form model s h form alt idle in
      let own = p_is ∙ unfilled_precision s 0 forms.1 in
      let few = forms.0.most in
      let width : b.width ≡ width_of s = own_field (width_of s) (2 + max p d) p _ _ narrow.width (omega (arith, d_is, few, own))
      (λ any. let least = forms.0.least any in omega (arith, own, least)) field.idle field.kept in
      let left : b.left ≡ has s.flags Minus = field.left ∙ narrow.left in
      let seen : b.left ≡ true → unseen_width p 3 < b.width = λ e.
      let l = forms.0.left (sym left ∙ e) in
      let least = seen_from p (width_of s) 3 (l.0, λ zero. l.1 (sym own ∙ zero)) in omega (arith, width, least) in
      own_number model s q (with_flag no_flags Alt) p h (prefixed_number s.conv form) (alt_flags model s h (prefixed_unsigned s.conv form) alt forms.1) own
      (omega (arith, right.constant, field.constant, narrow.constant, few, d_is, own)) (right.width ∙ width)
      (own_side _ _ _ (unseen_width p 3) right.wide right.right seen ∙ left)

  pub prefixed_by : (p d : ℕ) (a b q : Padding) → (is_zero_filled s ≡ true → (1 ≤ 0) ⊎ (width_of s ≤ 1)) → p ≡ effective_precision s 0
      → d ≡ digits_at_most model s → IsNarrowedTo (padding_of s) (2 + max p d) a → HasNoIdleWidth a p b → IsRightIfUnseen b (unseen_width p 3) q
      → IsReducedAs model s q (with_flag no_flags Alt) (kept_precision p)
  prefixed_by p d a b q idle p_is d_is narrow field right =
      let w = width_limit s defined in
      let few = effective_limit s 0 defined in
      let left = not_wider a p b field in
      let wider = left.0 in
      let normal : IsNormal model (core_of_parts model s q (with_flag no_flags Alt) (kept_precision p)) =
      normal_prefixed model s q p form (omega (arith, right.width, wider, narrow.width, w), omega (arith, p_is, few))
      (λ some. let least = left.1 (omega (arith, right.width, some)) in omega (arith, right.width, least))
      (omega (arith, right.width, wider, narrow.width, d_is))
      (λ l. let wide = (right.wide l).1 in (
        omega (arith, right.width, wide),
        λ zero. let three : 3 < b.width = rw zero at wide in omega
            (arith, right.width, three),
      )) in
      record {
        normal = normal;
        reduced = prefixed_reduced model s form alt q p idle p_is (refl, normal) (omega (arith, right.constant, field.constant, narrow.constant, w)) (λ body is.
            narrow.same body (omega (arith, is.most, d_is)) ∙ field.same body is.least ∙ right.same body (unseen_side b.width p body is.some));
        kept = prefixed_own p d a b q idle p_is d_is narrow field right;
      }

  unfilled_field : (is_zero_filled s ≡ true → (1 ≤ 0) ⊎ (width_of s ≤ 1)) → Reduction model s
  unfilled_field idle =
      let p : ℕ = effective_precision s 0 in
      let d : ℕ = digits_at_most model s in
      let (a, narrow) = narrowed (has s.flags Minus) (width_of s) (2 + max p d) in
      let (b, field) = without_idle a p in
      let (q, right) = right_justify_if_unseen b (unseen_width p 3) in
      made model s q (with_flag no_flags Alt) (kept_precision p) (prefixed_by p d a b q idle refl refl narrow field right)

  by_fill : (filled : Bool) → is_zero_filled s ≡ filled → Reduction model s
  by_fill true all = elim (cases_lt 1 (width_of s)) [
    | inl wide ↦ made model s (padding_of s) (with_flag (with_flag no_flags Alt) Zero) None (prefixed_filled_by all wide)
    | inr few ↦ unfilled_field (λ e. inr few)
  ]
  by_fill false no_fill = unfilled_field (λ e. absurd (cc))

  after_prefix : Reduction model s
  after_prefix = by_fill (is_zero_filled s) refl

-- `#` is not defined of each conversion
no_alt : (s : Specification) → IsDefined s → alternative_under (kind_of s.conv) ≡ Undefined → has s.flags Alt ≡ true → ⊥
no_alt s h e alt =
    let none = (none_broken s h.allowed).1.1.1.0 in
    let some : (not (has_alternative_form s.conv) && has s.flags Alt) ≡ true = rw (e, alt) refl in
    cc

-- what `#` does
pub unsigned : (model : Model) (s : Specification) → IsDefined s → is_text s.conv ≡ false → is_signed s.conv ≡ false → Reduction model s
unsigned model s defined text sign = by_alt (has s.flags Alt) refl (alternative_under (kind_of s.conv)) refl
  where
    by_alt : (alt : Bool) → has s.flags Alt ≡ alt → (form : Alternative) → alternative_under (kind_of s.conv) ≡ form → Reduction model s
    by_alt false alt form e = unprefixed model s defined text sign alt
    by_alt true alt Raised e = raised model s defined (ap raises_precision e) alt
    by_alt true alt Prefixed e = after_prefix model s defined (ap puts_prefix e) alt
    by_alt true alt Undefined e = absurd (no_alt s defined e alt)
