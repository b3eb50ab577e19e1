use Rattle.std.proofs.Common.{arith, ap, ◌∙◌}
use Rattle.std.specs.Prelude.{unwrap_or}
use Rattle.pf_bounds.proofs.TextBounds.{char_bounds}
use Rattle.pf_bounds.proofs.directives.char_bounds.Goals as goal

pub returns-clause-value : goal.returns-clause-value
returns-clause-value c =
    let width = c.unwrap_or.ensures ∙ ap (λ o. unwrap_or o 0) c.width.ensures.value in
    char_bounds c.args.model c.args.directive.now c.requires _ _ _ c.exactly.ensures.least c.exactly.ensures.greatest
    (omega (arith, width, c.max.ensures, c.from.ensures))
