use Rattle.std.proofs.Common.{arith, ap, sym, ◌∙◌}
use Rattle.std.specs.Prelude.{unwrap_or}
use Rattle.pf_bounds.proofs.TextBounds.{string_limited, string_unlimited}
use Rattle.pf_bounds.proofs.directives.string_bounds.Goals as goal

pub returns-in-None-clause-value : goal.returns-in-None-clause-value
returns-in-None-clause-value c =
    let width = c.unwrap_or-width.ensures ∙ ap (λ o. unwrap_or o 0) c.width.ensures.value in
    string_unlimited c.args.model c.args.directive.now c.requires _ (c.from.ensures ∙ width) (sym c.precision.ensures.value ∙ c.in-None.is)

pub returns-in-Some-clause-value : goal.returns-in-Some-clause-value
returns-in-Some-clause-value c =
    let width = c.unwrap_or-width.ensures ∙ ap (λ o. unwrap_or o 0) c.width.ensures.value in
    string_limited c.args.model c.args.directive.now c.requires _ _ _ (c.from-in-Some.ensures ∙ width) (sym c.precision.ensures.value ∙ c.in-Some.is)
    (omega (arith, width, c.max.ensures, c.from-in-Some-2.ensures))
