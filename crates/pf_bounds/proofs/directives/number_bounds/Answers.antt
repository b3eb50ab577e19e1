use Rattle.std.proofs.Common.{ap, refl, ◌∙◌, pos, negsuc}
use Rattle.pf_bounds.proofs.NumberBounds.{number_bounds}
use Rattle.pf_bounds.specs.FieldLengths.{field_len}
use Rattle.pf_bounds.proofs.directives.number_bounds.Goals as goal

pub returns-clause-value : goal.returns-clause-value
returns-clause-value c =
    let s = c.args.directive.now in
    let most = c.from-most_digits.ensures ∙ c.max_digits.ensures in
    number_bounds c.args.model s c.requires.integer _ _
    (c.from.ensures ∙ c.field_len.ensures.value (pos 0) (record { sign = refl; magnitude = refl }))
    (c.from-2.ensures ∙ c.field_len-2.ensures.value (negsuc 0) (record { sign = refl; magnitude = refl })
    ∙ ap (field_len s (negsuc 0)) most)
