use Rattle.std.proofs.Common.{◌≡◌, ap, sym, ◌∙◌}
use Rattle.pf_values.specs.meaning.Flags.{no_flags, with_flag}
use Rattle.pf_values.specs.declared.flags.Flag.TheVariants.{Zero}
use Rattle.pf_values.specs.Directives.{effective_precision}
use Rattle.pf_reduce.specs.Signs.{sign_length, sign_of}
use Rattle.pf_reduce.proofs.SignedReductions.{signed_by, signed_filled_by}
use Rattle.pf_reduce.proofs.integers.reduce_signed.Goals as goal

pub reduced_core-requires : goal.reduced_core-requires
reduced_core-requires c =
    let sign : c.of-sign.result ≡ sign_of c.args.directive.now.flags = c.of-sign.ensures ∙ ap sign_of c.flags.ensures.value in
    let flags : c.with-flags.result ≡ with_flag no_flags Zero = c.with-flags.ensures ∙ ap (λ f. with_flag f Zero) c.empty.ensures in
    let kept = c.keeps_zeros.ensures.kept c.if-keeps_zeros.true in
    rw (c.of.ensures.value, flags) (signed_filled_by c.args.model c.args.directive.now c.of.ensures.defined c.requires kept.0
    (ap sign_length (sym sign) ∙ sym c.len.ensures ∙ kept.1) kept.2)

pub reduced_core-requires-2 : goal.reduced_core-requires-2
reduced_core-requires-2 c =
    let sign : c.of-sign.result ≡ sign_of c.args.directive.now.flags = c.of-sign.ensures ∙ ap sign_of c.flags.ensures.value in
    rw (c.flags-2.ensures, c.kept_precision.ensures) (signed_by c.args.model c.args.directive.now c.of-2.ensures.defined c.requires c.of-sign.result
    c.sign_in_field-sign.result c.effective_precision-precision.result c.max_digits-digits.result _
    c.without_idle_width-padding.result _ c.right_justify_if_unseen-padding.result sign
    (rw c.len.ensures at c.keeps_zeros.ensures.idle c.if-keeps_zeros.false) (c.effective_precision-precision.ensures.value
    ∙ ap (effective_precision c.args.directive.now) c.len-2.ensures) c.max_digits-digits.ensures.value
    (rw (c.of-2.ensures.value, c.max.ensures) at c.with_width_at_most.ensures) (rw c.len-3.ensures at c.without_idle_width-padding.ensures)
    (record { same = c.sign_in_field-sign.ensures.same; space = c.sign_in_field-sign.ensures.space; none = c.sign_in_field-sign.ensures.none; kept = c.sign_in_field-sign.ensures.kept })
    (rw c.len-4.ensures at c.without_idle_width.ensures)
    (rw c.unseen_signed_width.ensures at c.right_justify_if_unseen-padding.ensures))
