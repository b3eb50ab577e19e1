-- Each directive that prints a number with a sign has a reduction.
use Rattle.std.proofs.Common.{◌≡◌, ◌≢◌, ℕ, ◌+◌, ◌<◌, ◌≤◌, max, Bool, true, false, Some, None, ◌++◌, length, refl, sym, ap, ◌∙◌, arith, inl, inr}
use Rattle.std.specs.Prelude.{nat_abs, ◌⊎◌}
use Rattle.std.proofs.lemmas.Bool.{cases_lt}
use Rattle.pf_values.specs.declared.conversions.Conv.{Conv}
use Rattle.pf_values.specs.declared.conversions.Conv.TheVariants.{D}
use Rattle.pf_values.specs.declared.flags.Flag.TheVariants.{Minus, Zero}
use Rattle.pf_values.specs.declared.lengths.Length.{Length}
use Rattle.pf_values.specs.declared.limits.TheConstants.{MAX_NUMBER}
use Rattle.pf_values.specs.declared.models.Model.{Model}
use Rattle.pf_values.specs.meaning.Conversions.{is_signed}
use Rattle.pf_values.specs.meaning.DataModel.{Bits, bits_under, kept_length, most_digits}
use Rattle.pf_values.specs.meaning.Defined.{IsDefined}
use Rattle.pf_values.specs.meaning.Flags.{has, no_flags, with_flag}
use Rattle.pf_values.specs.meaning.Normal.{IsNormal, digits_at_most, longest, sign_len}
use Rattle.pf_values.specs.meaning.Printing.{is_negative, is_zero_filled}
use Rattle.pf_values.specs.meaning.Specification.{Specification, width_of}
use Rattle.pf_values.specs.meaning.Text.{Text}
use Rattle.pf_values.specs.Directives.{effective_precision, specification_of}
use Rattle.pf_values.proofs.DataModelLemmas.{kept_row}
use Rattle.pf_values.proofs.DefinedLemmas.{effective_limit, width_limit}
use Rattle.pf_reduce.specs.declared.padding.Padding.{Padding}
use Rattle.pf_reduce.specs.declared.signs.Sign.{Sign}
use Rattle.pf_reduce.specs.declared.signs.Sign.TheVariants as signs
use Rattle.pf_reduce.specs.Cores.{IsReducedAs, core_of_parts, kept_precision, padded_core, with_side}
use Rattle.pf_reduce.specs.Reducing.{itself}
use Rattle.pf_reduce.specs.Padded.{HasNoIdleWidth, IsNarrowedTo, IsRightIfUnseen, padding_of, with_padding}
use Rattle.pf_reduce.specs.Signs.{sign_flags, sign_length, sign_of, sign_text, unseen_signed_width}
use Rattle.pf_reduce.proofs.Carried.{Reduction, made}
use Rattle.pf_reduce.proofs.CarriedIntegers.{width_is}
use Rattle.pf_reduce.proofs.Narrowing.{narrowed, not_wider, right_justify_if_unseen, without_idle}
use Rattle.pf_reduce.proofs.NormalCores.{kept_signed, normal_signed, some_width, width_within}
use Rattle.pf_reduce.proofs.OwnCores.{
  no_plus_is,
  own_field,
  own_filled_signed,
  own_number,
  own_side,
  seen_sign,
  sign_len_is,
  signed_flags,
  signed_form,
  signed_number,
  space_is,
  unfilled_precision,
}
use Rattle.pf_reduce.proofs.Precisions.{filled_right}
use Rattle.pf_reduce.proofs.SignLemmas.{none_for, space_for}
use Rattle.pf_reduce.proofs.SignedNumbers.{signed_filled, signed_least, signed_most, signed_reduced, signed_text, unseen_signed_side}
use Rattle.pf_reduce.proofs.UnprefixedNumbers.{digits_text, length-digits_text}

-- filled with zeros
made_filled : (model : Model) (w : ℕ) (length : Length) → kept_length model length ≡ length → w ≤ MAX_NUMBER → 2 ≤ w
    → IsNormal model (specification_of (with_flag no_flags Zero) (Some w) None length D)
made_filled model w length same few wide = record {
  defined = record { width = some_width w; allowed = rw (width_within w few) refl };
  no_group = refl;
  length = same;
  conv = refl;
  no_plus = λ e. cc;
  no_space = λ e. cc;
  precision = λ e. cc;
  form = (record { right = refl; no_precision = refl; width = omega (arith, width_is w, wide) }, refl);
}

normal_filled : (model : Model) (s : Specification) (p : Padding) → is_signed s.conv ≡ true → p.width ≤ MAX_NUMBER → p.left ≡ false → 2 ≤ p.width
    → IsNormal model (core_of_parts model s p (with_flag no_flags Zero) None)
normal_filled model s p signed few right wide = rw (kept_signed s.conv signed, right) (made_filled model p.width (kept_length model s.length)
    (ap (λ r. r.kept) (kept_row model s.length)) few wide)

-- On the right, in a field for the most digits and a sign, one of two signs is as good as the other.
pub record ReplacesSign (p : Padding) (sign : Sign) (longest precision digits : ℕ) (new : Sign) : Type 0 where
  pub same : (negative : Bool) (number : Text) → length number ≤ longest → with_padding p (sign_text sign negative ++ number) ≡ with_padding p
      (sign_text new negative ++ number)
  pub space : p.left ≡ false → p.width ≡ 1 + longest → new ≡ signs.Space → digits ≤ precision
  pub none : p.left ≡ false → p.width ≡ 1 + longest → new ≡ signs.None → precision < digits
  pub kept : (p.left ≡ false → sign ≡ signs.Space → p.width ≢ 1 + longest)
      → (p.left ≡ false → sign ≡ signs.None → digits ≤ precision → p.width ≢ 1 + longest) → new ≡ sign

module _ (p : Padding) (longest precision digits : ℕ) where
  -- there is no such field
  kept_sign : (sign : Sign) → (p.left ≡ true) ⊎ (p.width ≢ 1 + longest) → (new : Sign) × ReplacesSign p sign longest precision digits new
  kept_sign sign elsewhere = (
    sign,
    record {
      same = λ negative number few. refl;
      space = λ right wide is. elim elsewhere [ inl left ↦ absurd (cc) | inr other ↦ absurd (other wide) ];
      none = λ right wide is. elim elsewhere [ inl left ↦ absurd (cc) | inr other ↦ absurd (other wide) ];
      kept = λ spaced bare. refl;
    },
  )

  space_or_none : (sign : Sign) → (sign ≡ signs.Space) ⊎ (sign ≡ signs.None) → p.left ≡ false → p.width ≡ 1 + longest
      → (new : Sign) × ReplacesSign p sign longest precision digits new
  space_or_none sign one right wide = elim (cases_lt precision digits) [
    | inl fewer ↦ (
      signs.None,
      record {
        same = λ negative number few. none_for sign p negative number one right (omega (arith, few, wide));
        space = λ right wide is. cc;
        none = λ right wide is. fewer;
        kept = λ spaced bare. elim one [ inl e ↦ absurd (spaced right e wide) | inr e ↦ sym e ];
      },
    )
    | inr enough ↦ (
      signs.Space,
      record {
        same = λ negative number few. space_for sign p negative number one right (omega (arith, few, wide));
        space = λ right wide is. enough;
        none = λ right wide is. cc;
        kept = λ spaced bare. elim one [ inl e ↦ sym e | inr e ↦ absurd (bare right e enough wide) ];
      },
    )
  ]

  in_its_field : (sign : Sign) → p.left ≡ false → p.width ≡ 1 + longest → (new : Sign) × ReplacesSign p sign longest precision digits new
  in_its_field signs.None right wide = space_or_none signs.None (inr refl) right wide
  in_its_field signs.Plus right wide =
      (signs.Plus, record { same = λ negative number few. refl; space = λ right wide is. cc; none = λ right wide is. cc; kept = λ spaced bare. refl })
  in_its_field signs.Space right wide = space_or_none signs.Space (inl refl) right wide

  by_side : (sign : Sign) (left : Bool) → p.left ≡ left → p.width ≤ 1 + longest → (new : Sign) × ReplacesSign p sign longest precision digits new
  by_side sign true left most = kept_sign sign (inl left)
  by_side sign false right most = elim (cases_lt longest p.width) [
    | inl room ↦ in_its_field sign right (omega (arith, room, most))
    | inr few ↦ kept_sign sign (inr (λ e. absurd (omega (arith, few, e))))
  ]

-- the width up to which the side isn't seen
unseen_at_zero : (sign : Sign) (precision : ℕ) → sign ≢ signs.Plus → precision ≡ 0 → unseen_signed_width precision sign ≡ sign_length sign + 1
unseen_at_zero sign precision other empty = grind arith

three_digits : (conv : Conv) (b : Bits) → is_signed conv ≡ true → 3 ≤ most_digits conv b
three_digits conv b e = grind arith

at_most_two : (sign : Sign) (precision : ℕ) → unseen_signed_width precision sign ≤ 2
at_most_two sign precision = grind arith

module _ (model : Model) (s : Specification) (defined : IsDefined s) (signed : is_signed s.conv ≡ true) where
  -- the flag `0` is kept in a field of two bytes or more, where there is no sign
  pub signed_filled_by : is_zero_filled s ≡ true → sign_length (sign_of s.flags) ≡ 0 → 2 ≤ width_of s
      → IsReducedAs model s (padding_of s) (with_flag no_flags Zero) None
  signed_filled_by all none wide =
      let normal = normal_filled model s (padding_of s) signed (width_limit s defined) (filled_right s all) wide in
      record { normal = normal; reduced = signed_filled model s signed all none (refl, normal); kept = λ h. own_filled_signed model s h signed none all }

  -- none of the steps changes a normal directive
  signed_own : (sign new : Sign) (p d : ℕ) (a b c q : Padding) → sign ≡ sign_of s.flags
      → (is_zero_filled s ≡ true → (1 ≤ sign_length sign) ⊎ (width_of s ≤ 1)) → p ≡ effective_precision s (sign_length sign) → d ≡ digits_at_most model s
      → IsNarrowedTo (padding_of s) (1 + max p d) a → HasNoIdleWidth a (sign_length sign + p) b → ReplacesSign b sign (max p d) p d new
      → HasNoIdleWidth b (sign_length new + p) c → IsRightIfUnseen c (unseen_signed_width p new) q
      → IsNormal model s → padded_core model s q (sign_flags new) (kept_precision p) ≡ itself model s
  signed_own sign new p d a b c q sign_is idle p_is d_is narrow field replaced again right h =
      let w = width_of s in
      let len : sign_length sign ≡ sign_len s = ap sign_length sign_is ∙ sym (sign_len_is s) in
      let forms = signed_form model s (sign_length sign) h signed len idle in
      let form = forms.0 in
      let own = p_is ∙ unfilled_precision s _ forms.1 in
      let few = form.most in
      let more : 0 < w → sign_length sign + p < w = λ any. let least = form.least any in omega (arith, least, own, len) in
      let width : b.width ≡ w = own_field w (1 + max p d) (sign_length sign + p) _ _ narrow.width (omega (arith, few, d_is, own)) more field.idle field.kept in
      let left : b.left ≡ has s.flags Minus = field.left ∙ narrow.left in
      let full : 1 + max p d ≡ 1 + longest model s = omega (arith, own, d_is) in
      let kept : new ≡ sign = replaced.kept
      (λ r is wide. form.right_space (sym left ∙ r) (space_is s (sym sign_is ∙ is)) (sym width ∙ wide ∙ full))
      (λ r is enough wide. form.right_bare (sym left ∙ r) (sym len ∙ ap sign_length is) (omega (arith, enough, d_is, own)) (sym width ∙ wide ∙ full)) in
      let last : c.width ≡ w = own_field w w (sign_length new + p) b.width _ (omega (arith, width)) (omega arith) (rw kept more) again.idle again.kept in
      let side : c.left ≡ has s.flags Minus = again.left ∙ left in
      let seen : c.left ≡ true → unseen_signed_width p new < c.width = λ e.
      let l = form.left (sym side ∙ e) in
      let least = seen_sign sign p w (
        l.0,
        λ other zero. let m = l.1 (no_plus_is s (λ is. other (sign_is ∙ is))) (sym own ∙ zero) in
            omega (arith, m, len),
      ) in
      rw (kept, last) least in
      own_number model s q (sign_flags new) p h (signed_number s.conv signed) (ap (λ u. with_side (has s.flags Minus) (sign_flags u)) (kept ∙ sign_is)
      ∙ signed_flags model s h signed form.one_sign forms.1) own
      (omega (arith, right.constant, again.constant, field.constant, narrow.constant, few, d_is, own)) (right.width ∙ last)
      (own_side _ _ _ (unseen_signed_width p new) right.wide right.right seen ∙ side)

  pub signed_by : (sign new : Sign) (p d : ℕ) (a b c q : Padding) → sign ≡ sign_of s.flags
      → (is_zero_filled s ≡ true → (1 ≤ sign_length sign) ⊎ (width_of s ≤ 1)) → p ≡ effective_precision s (sign_length sign) → d ≡ digits_at_most model s
      → IsNarrowedTo (padding_of s) (1 + max p d) a → HasNoIdleWidth a (sign_length sign + p) b → ReplacesSign b sign (max p d) p d new
      → HasNoIdleWidth b (sign_length new + p) c → IsRightIfUnseen c (unseen_signed_width p new) q
      → IsReducedAs model s q (sign_flags new) (kept_precision p)
  signed_by sign new p d a b c q sign_is idle p_is d_is narrow field replaced again right =
      let three = three_digits s.conv (bits_under model s.length) signed in
      let w = width_limit s defined in
      let few = effective_limit s (sign_length sign) defined in
      let small = at_most_two new p in
      let wider = (not_wider a (sign_length sign + p) b field).0 in
      let left = not_wider b (sign_length new + p) c again in
      let wider_again = left.0 in
      let on_the_right : q.left ≡ false → q.width ≡ 1 + max p d → (b.left ≡ false) × (b.width ≡ 1 + max p d) =
      λ r wide. (
        sym (again.left) ∙ sym (right.right (omega (arith, right.width, wide, small, three, d_is)))
            ∙ r,
        omega (arith, right.width, wider_again, wider, narrow.width, wide),
      ) in
      let normal : IsNormal model (core_of_parts model s q (sign_flags new) (kept_precision p)) =
      normal_signed model s q new p signed (omega (arith, right.width, wider_again, wider, narrow.width, w), omega (arith, p_is, few))
      (λ some. let least = left.1 (omega (arith, right.width, some)) in omega (arith, right.width, least))
      (omega (arith, right.width, wider_again, wider, narrow.width, d_is))
      (λ r is wide. let at = on_the_right r (omega (arith, wide, d_is)) in let enough = replaced.space at.0 at.1 is in let one = ap sign_length is in
      let least = left.1 (omega (arith, right.width, wide)) in omega (arith, right.width, wide, enough, one, least, d_is))
      (λ r is enough wide. let at = on_the_right r (omega (arith, wide, d_is)) in let fewer = replaced.none at.0 at.1 is in omega (arith, enough, fewer, d_is))
      (λ l. let wide = (right.wide l).1 in (omega (arith, right.width, wide), λ other zero. let at = unseen_at_zero new p other zero in omega (arith, right.width, wide, at)))
      in
      record {
        normal = normal;
        reduced = signed_reduced model s signed q new p (rw (← sign_is) idle) (rw (← sign_is) p_is) (refl, normal)
            (omega (arith, right.constant, again.constant, field.constant, narrow.constant, w)) (λ v count.
            let number = digits_text D p (nat_abs v) in
            let len = length-digits_text D p (nat_abs v) in
            let before = signed_text sign p v in
            let after = signed_text new p v in
            ap (λ u. with_padding (padding_of s) (signed_text u p v)) (sym sign_is)
            ∙ narrow.same before (omega (arith, signed_most sign p (digits_at_most model s) v count, d_is))
            ∙ field.same before (signed_least sign p v)
            ∙ replaced.same (is_negative v) number (omega (arith, len, count, d_is))
            ∙ again.same after (signed_least new p v)
            ∙ right.same after (unseen_signed_side new c.width p v));
        kept = signed_own sign new p d a b c q sign_is idle p_is d_is narrow field replaced again right;
      }

  unfilled_field : (is_zero_filled s ≡ true → (1 ≤ sign_length (sign_of s.flags)) ⊎ (width_of s ≤ 1)) → Reduction model s
  unfilled_field idle =
      let sign : Sign = sign_of s.flags in
      let p : ℕ = effective_precision s (sign_length sign) in
      let d : ℕ = digits_at_most model s in
      let (a, narrow) = narrowed (has s.flags Minus) (width_of s) (1 + max p d) in
      let (b, field) = without_idle a (sign_length sign + p) in
      let (new, replaced) = by_side b (max p d) p d sign b.left refl (let less = (not_wider a _ b field).0 in omega (arith, narrow.width, less)) in
      let (c, again) = without_idle b (sign_length new + p) in
      let (q, right) = right_justify_if_unseen c (unseen_signed_width p new) in
      made model s q (sign_flags new) (kept_precision p) (signed_by sign new p d a b c q refl idle refl refl narrow field replaced again right)

  by_fill : (filled : Bool) → is_zero_filled s ≡ filled → Reduction model s
  by_fill true all = elim (cases_lt 0 (sign_length (sign_of s.flags))) [
    | inl some ↦ unfilled_field (λ e. inl some)
    | inr none ↦ elim (cases_lt 1 (width_of s)) [
      | inl wide ↦ made model s (padding_of s) (with_flag no_flags Zero) None (signed_filled_by all (omega (arith, none)) wide)
      | inr few ↦ unfilled_field (λ e. inr few)
    ]
  ]
  by_fill false no_fill = unfilled_field (λ e. absurd (cc))

  pub signed_reduction : Reduction model s
  signed_reduction = by_fill (is_zero_filled s) refl
