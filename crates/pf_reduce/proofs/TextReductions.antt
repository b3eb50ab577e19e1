-- Each directive that prints a byte or a string has a reduction.
use Rattle.std.proofs.Common.{◌≡◌, ◌≢◌, ℕ, zero, suc, ◌-◌, ◌<◌, ◌≤◌, Bool, true, false, Option, Some, None, [], ◌++◌, length, take, replicate, refl, sym, ap, ◌∙◌, subst, arith, inl}
use Rattle.std.specs.Prelude.{IfSome}
use Rattle.std.proofs.lemmas.List.{append-nil, length-take}
use Rattle.pf_values.specs.declared.conversions.Conv.TheVariants.{C, S}
use Rattle.pf_values.specs.declared.conversions.Kind.{Kind}
use Rattle.pf_values.specs.declared.conversions.Kind.TheVariants as kinds
use Rattle.pf_values.specs.declared.flags.Flag.TheVariants.{Minus}
use Rattle.pf_values.specs.declared.lengths.Length.TheVariants as lengths
use Rattle.pf_values.specs.declared.limits.TheConstants.{MAX_NUMBER}
use Rattle.pf_values.specs.declared.models.Model.{Model}
use Rattle.pf_values.specs.meaning.Arguments.{Argument}
use Rattle.pf_values.specs.meaning.Conversions.{kind_of}
use Rattle.pf_values.specs.meaning.Defined.{IsDefined, is_above_limit}
use Rattle.pf_values.specs.meaning.Flags.{has, no_flags}
use Rattle.pf_values.specs.meaning.Normal.{IsNormal, silent}
use Rattle.pf_values.specs.meaning.DataModel.{arg_type}
use Rattle.pf_values.specs.meaning.Printing.{PrintsKind, field, field_of, printed_front}
use Rattle.pf_values.specs.meaning.Specification.{Specification, width_of}
use Rattle.pf_values.specs.meaning.Text.{Text, space}
use Rattle.pf_values.specs.Directives.{specification_of}
use Rattle.pf_values.proofs.DefinedLemmas.{width_limit, within}
use Rattle.pf_reduce.specs.declared.padding.Padding.{Padding}
use Rattle.pf_reduce.specs.declared.results.Core.TheVariants.{Silent}
use Rattle.pf_reduce.specs.declared.results.Reduced.{Reduced}
use Rattle.pf_reduce.specs.Cores.{core_of_parts, padded_core, with_side}
use Rattle.pf_reduce.specs.Padded.{constants, padding_of, with_padding}
use Rattle.pf_reduce.specs.Reducing.{around, core_of}
use Rattle.pf_reduce.proofs.Carried.{Carries, Reduction, prints_reduced}
use Rattle.pf_reduce.proofs.CarriedIntegers.{field-padded, kept_kind, kept_type, padded-made, width_is}
use Rattle.pf_reduce.proofs.Narrowing.{narrowed, right_justify_if_unseen, without_idle}
use Rattle.pf_reduce.proofs.NormalCores.{some_width, width_within}
use Rattle.pf_reduce.proofs.NormalForms.{bare_flags, side_flags}
use Rattle.pf_reduce.proofs.TextCores.{no_length, normal_string}
use Rattle.pf_reduce.proofs.UnprefixedNumbers.{one_or_none}

-- what each text that the core prints is in the directive's field
carried : (model : Model) (s : Specification) (r : Reduced) (k : Kind) → kind_of s.conv ≡ k → kind_of (core_of r.core).conv ≡ k
    → ((argument : Argument) (body : Text) → PrintsKind model k (core_of r.core) argument body → PrintsKind model k s argument body
    × (field s body ≡ around r (field (core_of r.core) body)))
    → Carries model s r
carried model s r k e f same argument inner typed p =
    let at = same argument p.0 (subst (λ k. PrintsKind model k (core_of r.core) argument p.0) f p.1) in
    (p.0, subst (λ k. PrintsKind model k s argument p.0) (sym e) at.0, ap (around r) p.2 ∙ sym at.1)

-- a core made of parts, in its padding
text_reduced : (model : Model) (s : Specification) (p : Padding) (precision : Option ℕ) (k : Kind) → kind_of s.conv ≡ k
    → IsNormal model (core_of_parts model s p no_flags precision) → constants p ≤ MAX_NUMBER
    → ((argument : Argument) (body : Text) → PrintsKind model k (core_of_parts model s p no_flags precision) argument body → PrintsKind model k s argument body
    × (with_padding (padding_of s) body ≡ with_padding p body))
    → Reduction model s
text_reduced model s p precision k e normal few same =
    let r : Reduced = padded_core model s p no_flags precision in (
      r,
      record {
        normal = (refl, normal);
        same_type = kept_type model s.conv s.length;
        prints = prints_reduced model s r (kept_type model s.conv s.length) (carried model s r k e (kept_kind s.conv ∙ e) (λ argument body h.
            let at = same argument body h in
            (at.0, field-padded s body ∙ at.1 ∙ padded-made model s p no_flags precision body refl)));
        silent = λ x. cc;
        few = few;
      },
    )

-- a byte
normal_char : (model : Model) (s : Specification) (p : Padding) → IsDefined s → s.conv ≡ C → p.width ≡ 0 → p.left ≡ false
    → IsNormal model (core_of_parts model s p no_flags None)
normal_char model s p defined is none right = grind (arith, no_length, some_width)

one_byte : (model : Model) (s t : Specification) (argument : Argument) (body : Text) → PrintsKind model kinds.Char t argument body
    → PrintsKind model kinds.Char s argument body × (length body ≡ 1)
one_byte model s t argument body h = grind arith

pub char_reduction : (model : Model) (s : Specification) → IsDefined s → s.conv ≡ C → Reduction model s
char_reduction model s defined is =
    let w = width_limit s defined in
    let (a, narrow) = narrowed (has s.flags Minus) (width_of s) 1 in
    let (b, field) = without_idle a 1 in
    let (q, right) = right_justify_if_unseen b 0 in
    let none : b.width ≡ 0 = field.idle (omega (arith, narrow.width)) in
    let normal = normal_char model s q defined is (omega (arith, right.width, none)) (no_left q.left
    (λ l. let wide = (right.wide l).1 in omega (arith, wide, none))) in
    text_reduced model s q None kinds.Char (ap kind_of is) normal (omega (arith, right.constant, field.constant, narrow.constant, w)) (λ argument body h.
    let at = one_byte model s (core_of_parts model s q no_flags None) argument body h in
    let one = at.1 in
    (at.0, narrow.same body (omega (arith, one)) ∙ field.same body (omega (arith, one)) ∙ right.same body (λ few. inl (omega (arith, none)))))
  where
    no_left : (left : Bool) → (left ≡ true → ⊥) → left ≡ false
    no_left true h = absurd (h refl)
    no_left false h = refl

-- a string
made_string : (model : Model) (left : Bool) (w : ℕ) (precision : Option ℕ) → w ≤ MAX_NUMBER → is_above_limit precision ≡ false → precision ≢ Some 0
    → IfSome precision (λ most. w ≤ most) → (left ≡ true → 1 < w)
    → IsNormal model (specification_of (with_side left no_flags) (Some w) precision lengths.None S)
made_string model left w precision few small some most wide =
    let none = bare_flags left in
    let side = side_flags left no_flags refl in
    record {
      defined = record { width = some_width w; allowed = rw (width_within w few, small, side.1, side.2, none.group) refl };
      no_group = none.group;
      length = refl;
      conv = refl;
      no_plus = λ e. absurd (let no = none.plus in cc);
      no_space = λ e. absurd (let no = none.space in cc);
      precision = λ e. refl;
      form = record { shows_some = some; width = rw (width_is w) most; left = λ l. rw (width_is w) (wide (sym side.0 ∙ l)) };
    }

printed_string : (model : Model) (s t : Specification) (argument : Argument) (body : Text) → t.precision ≡ s.precision
    → PrintsKind model kinds.String t argument body → PrintsKind model kinds.String s argument body
    × ((bytes : Text) × (body ≡ printed_front s.precision bytes))
printed_string model s t argument body e h = grind arith

-- a narrower field
module _ (model : Model) (s : Specification) (defined : IsDefined s) (is : s.conv ≡ S) where
  in_narrower : (a : Padding) → s.precision ≢ Some 0 → IfSome s.precision (λ most. a.width ≤ most) → a.width ≤ width_of s → constants a ≤ MAX_NUMBER
      → ((bytes : Text) → with_padding (padding_of s) (printed_front s.precision bytes) ≡ with_padding a (printed_front s.precision bytes)) → Reduction model s
  in_narrower a some most few constant same =
      let w = width_limit s defined in
      let small = (within s defined.allowed).precision in
      let (q, right) = right_justify_if_unseen a 1 in
      let normal = normal_string model s q no_flags s.precision defined.allowed is (made_string model q.left q.width s.precision
      (omega (arith, right.width, few, w)) small some (rw right.width most) (λ l. let wide = (right.wide l).1 in omega (arith, right.width, wide))) in
      text_reduced model s q s.precision kinds.String (ap kind_of is) normal (omega (arith, right.constant, constant)) (λ argument body h.
      let at = printed_string model s (core_of_parts model s q no_flags s.precision) argument body refl h in
      let bytes = at.1.0 in
      (at.0, rw at.1.1 (same bytes ∙ right.same (printed_front s.precision bytes) (one_or_none _ _))))

  shortened : (most : ℕ) → s.precision ≡ Some (suc most) → Reduction model s
  shortened most e =
      let w = width_limit s defined in
      let (a, narrow) = narrowed (has s.flags Minus) (width_of s) (suc most) in
      in_narrower a (λ none. cc) (rw e (omega (arith, narrow.width))) (omega (arith, narrow.width)) (omega (arith, narrow.constant, w))
      (λ bytes. rw e (narrow.same (take (suc most) bytes) (omega (arith, length-take (suc most) bytes))))

  whole : s.precision ≡ None → Reduction model s
  whole e = in_narrower (padding_of s) (λ none. cc) (rw e tt) (omega arith) (omega arith) (λ bytes. refl)

  -- `%.0s` in a field of spaces
  spaces_alone : (left : Bool) (w : ℕ) → field_of left w [] ≡ replicate w space ++ []
  spaces_alone true w = let e : w - 0 ≡ w = omega arith in rw e (sym (append-nil (replicate w space)))
  spaces_alone false w = let e : w - 0 ≡ w = omega arith in rw e refl

  nothing : s.precision ≡ Some 0 → Reduction model s
  nothing e =
      let r : Reduced = record { spaces = width_of s; zeros = 0; core = Silent; trail = 0 } in
      let same_type : arg_type model silent ≡ arg_type model s = rw is refl in (
        r,
        record {
          normal = tt;
          same_type = same_type;
          prints = prints_reduced model s r same_type (carried model s r kinds.String (ap kind_of is) refl (λ argument body h.
              let at = printed_string model s silent argument body (sym e) h in
              let none : body ≡ [] = at.1.1 ∙ ap (λ o. printed_front o at.1.0) e in
              (at.0, rw none (spaces_alone (has s.flags Minus) (width_of s)))));
          silent = λ x. (is, refl, refl);
          few = omega (arith, width_limit s defined);
        },
      )

  by_precision : (precision : Option ℕ) → s.precision ≡ precision → Reduction model s
  by_precision None e = whole e
  by_precision (Some zero) e = nothing e
  by_precision (Some (suc most)) e = shortened most e

  pub string_reduction : Reduction model s
  string_reduction = by_precision s.precision refl
