use Rattle.std.proofs.Common.{refl, [], ◌∷◌}
use Rattle.pf_bounds.proofs.TextBounds.{bytes_bounds, item_bounds}
use Rattle.pf_bounds.proofs.formats.piece_bounds.Goals as goal

pub returns-in-Literal-clause-value : goal.returns-in-Literal-clause-value
returns-in-Literal-clause-value c =
    rw c.in-Literal.is (bytes_bounds c.args.model c.in-Literal.run'.now _ _ _ c.exactly.ensures.least c.exactly.ensures.greatest refl)

pub returns-in-Percent-clause-value : goal.returns-in-Percent-clause-value
returns-in-Percent-clause-value c =
    rw c.in-Percent.is (bytes_bounds c.args.model (37 ∷ []) _ _ _ c.exactly-in-Percent.ensures.least c.exactly-in-Percent.ensures.greatest refl)

pub returns-in-Directive-clause-value : goal.returns-in-Directive-clause-value
returns-in-Directive-clause-value c =
    rw c.in-Directive.is (item_bounds c.args.model c.in-Directive.directive _ _ c.directive_bounds.ensures.value)
