use Rattle.std.proofs.Common.{arith, ap, ◌∙◌}
use Rattle.std.specs.Prelude.{unwrap_or}
use Rattle.pf_bounds.proofs.Lengths.{parts_in_field}
use Rattle.pf_bounds.proofs.directives.field_len.Goals as goal

pub returns-clause-value : goal.returns-clause-value
returns-clause-value c v h =
    let width = c.unwrap_or.ensures ∙ ap (λ o. unwrap_or o 0) c.width.ensures.value in
    let whole = parts_in_field c.args.directive.now v c.args.digit_count c.of-parts.result (c.of-parts.ensures.parts v h) in
    omega (arith, width, whole, c.max.ensures, c.from.ensures, c.len-len.ensures.value, c.len-len.ensures.short)
