-- Unsigned numbers in a field that the flag `0` fills.
use Rattle.std.proofs.Common.{◌≡◌, ◌-◌, ◌≤◌, true, false, None, refl, sym, ◌∙◌, subst, arith}
use Rattle.pf_values.specs.declared.flags.Flag.TheVariants.{Zero}
use Rattle.pf_values.specs.declared.models.Model.{Model}
use Rattle.pf_values.specs.meaning.Conversions.{is_signed, is_text}
use Rattle.pf_values.specs.meaning.Defined.{IsDefined}
use Rattle.pf_values.specs.meaning.Flags.{has, no_flags, with_flag}
use Rattle.pf_values.specs.meaning.Normal.{IsNormal, digits_at_most}
use Rattle.pf_values.specs.meaning.Specification.{Specification, width_of}
use Rattle.pf_values.specs.Directives.{effective_precision}
use Rattle.pf_reduce.specs.declared.padding.Padding.{Padding}
use Rattle.pf_reduce.specs.Cores.{IsReducedAs, kept_precision}
use Rattle.pf_reduce.specs.Padded.{HasNoIdleWidth, padding_of}
use Rattle.pf_reduce.proofs.OwnCores.{unprefixed_form}
use Rattle.pf_reduce.proofs.UnsignedReductions.{unprefixed_by}

module _ (model : Model) (s : Specification) (defined : IsDefined s) (text : is_text s.conv ≡ false) where
  abbrev whole : Padding
  whole = padding_of s

  -- a field that the flag `0` fills
  module _ (unsigned : is_signed s.conv ≡ false) (flags : s.flags ≡ with_flag no_flags Zero) (precision : s.precision ≡ None) (some : 2 ≤ width_of s)
      (most : width_of s ≤ digits_at_most model s) (b : Padding) (field : HasNoIdleWidth whole (width_of s) b) where
    on_the_right : b.left ≡ false
    on_the_right = field.left ∙ rw flags refl

    filled : effective_precision s 0 ≡ width_of s
    filled = rw (flags, precision) (omega (arith, some))

    pub filled_reduced : IsReducedAs model s b no_flags (kept_precision (width_of s))
    filled_reduced =
        let none : b.width ≡ 0 = field.idle (omega arith) in
        let all : width_of s - 0 ≡ width_of s = omega arith in
        subst (λ n. IsReducedAs model s b no_flags (kept_precision n)) all
        (unprefixed_by model s defined text unsigned (rw flags refl) (width_of s) (digits_at_most model s) 0 whole b b b (sym filled) refl
        (omega (arith, most)) (record { same = λ body few. refl; constant = omega arith; left = refl; width = omega arith }) field
        (record { same = λ body. refl; constant = omega arith; left = refl; width = omega (arith, none) })
        (record { same = λ body seen. refl; constant = refl; width = refl; wide = λ e. absurd (let r = on_the_right in cc); right = λ less. refl }))

    pub filled_not_normal : IsNormal model s → ⊥
    filled_not_normal h =
        let form = unprefixed_form model s h text unsigned (rw flags refl) in
        let none = form.not_filled in
        let zero : has s.flags Zero ≡ true = rw flags refl in
        cc
