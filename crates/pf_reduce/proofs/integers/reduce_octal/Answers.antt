use Rattle.std.proofs.Common.{◌≡◌, ◌+◌, max, ap, ◌∙◌}
use Rattle.pf_values.specs.meaning.Flags.{no_flags, with_flag}
use Rattle.pf_values.specs.declared.flags.Flag.TheVariants.{Alt}
use Rattle.pf_reduce.proofs.UnsignedReductions.{octal_after_spaces, octal_after_hoisted}
use Rattle.pf_reduce.proofs.integers.reduce_octal.Goals as goal

pub reduced_core-requires : goal.reduced_core-requires
reduced_core-requires c =
    let flags : c.with-alt.result ≡ with_flag no_flags Alt = c.with-alt.ensures ∙ ap (λ f. with_flag f Alt) c.empty.ensures in
    rw (flags, c.kept_precision.ensures) (octal_after_spaces c.args.model c.args.directive.now c.of.ensures.defined c.requires.octal c.requires.alt
    c.max-precision.result c.max_digits-digits.result _ c.without_idle_width-padding.result
    (c.max-precision.ensures ∙ ap (λ k. max k 1) c.effective_precision.ensures.value) c.max_digits-digits.ensures.value
    (rw (c.of.ensures.value, c.max.ensures) at c.with_width_at_most.ensures) c.without_idle_width-padding.ensures
    (c.has_spaces_before.ensures.yes c.if-has_spaces_before.true).0 (c.has_spaces_before.ensures.yes c.if-has_spaces_before.true).1)

pub reduced_core-requires-2 : goal.reduced_core-requires-2
reduced_core-requires-2 c = rw (c.empty-2.ensures, c.kept_precision-kept.ensures) (octal_after_hoisted c.args.model c.args.directive.now c.of.ensures.defined
    c.requires.octal c.requires.alt c.max-precision.result c.max_digits-digits.result _ c.without_idle_width-padding.result
    (c.max-precision.ensures ∙ ap (λ k. max k 1) c.effective_precision.ensures.value) c.max_digits-digits.ensures.value
    (rw (c.of.ensures.value, c.max.ensures) at c.with_width_at_most.ensures) c.without_idle_width-padding.ensures
    (c.has_spaces_before.ensures.no c.if-has_spaces_before.false)
    (1 + c.saturating_sub-zeros.result) _ c.right_justify_if_unseen-padding.result
    (ap (λ k. 1 + k) c.saturating_sub-zeros.ensures) c.hoist_zeros.ensures
    c.right_justify_if_unseen-padding.ensures)
