use Rattle.std.proofs.Common.{◌≡◌, ap, ◌∙◌}
use Rattle.pf_values.specs.meaning.Flags.{no_flags, with_flag}
use Rattle.pf_values.specs.declared.flags.Flag.TheVariants.{Alt, Zero}
use Rattle.pf_reduce.proofs.UnsignedReductions.{prefixed_by, prefixed_filled_by}
use Rattle.pf_reduce.proofs.integers.reduce_prefixed.Goals as goal

pub reduced_core-requires : goal.reduced_core-requires
reduced_core-requires c =
    let flags : c.with-flags.result ≡ with_flag (with_flag no_flags Alt) Zero = c.with-flags.ensures
    ∙ ap (λ f. with_flag f Zero) (c.with.ensures ∙ ap (λ f. with_flag f Alt) c.empty.ensures) in
    rw (c.of.ensures.value, flags) (prefixed_filled_by c.args.model c.args.directive.now c.of.ensures.defined c.requires.prefixed c.requires.alt
    (c.keeps_zeros.ensures.kept c.if-keeps_zeros.true).0 (c.keeps_zeros.ensures.kept c.if-keeps_zeros.true).2)

pub reduced_core-requires-2 : goal.reduced_core-requires-2
reduced_core-requires-2 c =
    let flags : c.with-alt.result ≡ with_flag no_flags Alt = c.with-alt.ensures ∙ ap (λ f. with_flag f Alt) c.empty-2.ensures in
    rw (flags, c.kept_precision.ensures) (prefixed_by c.args.model c.args.directive.now c.of-2.ensures.defined c.requires.prefixed c.requires.alt
    c.effective_precision-precision.result c.max_digits.result _ _ c.right_justify_if_unseen-padding.result
    (c.keeps_zeros.ensures.idle c.if-keeps_zeros.false) c.effective_precision-precision.ensures.value c.max_digits.ensures.value
    (rw (c.of-2.ensures.value, c.max.ensures) at c.with_width_at_most.ensures) c.without_idle_width.ensures
    (rw c.unseen_width.ensures at c.right_justify_if_unseen-padding.ensures))
