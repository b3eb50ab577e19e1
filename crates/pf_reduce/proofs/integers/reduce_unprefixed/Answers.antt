use Rattle.pf_reduce.proofs.UnsignedReductions.{unprefixed_by}
use Rattle.pf_reduce.proofs.integers.reduce_unprefixed.Goals as goal

pub reduced_core-requires : goal.reduced_core-requires
reduced_core-requires c = rw (c.empty.ensures, c.kept_precision-kept.ensures) (unprefixed_by c.args.model c.args.directive.now c.of.ensures.defined
    c.requires.text c.requires.sign c.requires.alt c.effective_precision-precision.result c.max_digits-digits.result c.saturating_sub-zeros.result _ _ _
    c.right_justify_if_unseen-padding.result c.effective_precision-precision.ensures.value c.max_digits-digits.ensures.value c.saturating_sub-zeros.ensures
    (rw (c.of.ensures.value, c.max.ensures) at c.with_width_at_most.ensures) c.without_idle_width.ensures c.hoist_zeros.ensures
    c.right_justify_if_unseen-padding.ensures)
