use Rattle.pf_values.specs.declared.conversions.Conv.TheVariants.{U, B, C, S}
use Rattle.pf_bounds.proofs.TallyLemmas.{bare_bounds, most_eleven, most_eight}
use Rattle.pf_bounds.proofs.known_bounds.bare_tally.Goals as goal

pub returns-in-D-clause-value : goal.returns-in-D-clause-value
returns-in-D-clause-value c = rw (c.up_to.ensures.least, c.up_to.ensures.spread, c.up_to.ensures.bounded) (most_eleven c.args.model c.args.conv c.in-D.is)

pub returns-in-U-clause-value : goal.returns-in-U-clause-value
returns-in-U-clause-value c =
    rw (c.in-U.is, c.up_to-in-U.ensures.least, c.up_to-in-U.ensures.spread, c.up_to-in-U.ensures.bounded) (bare_bounds c.args.model U)

pub returns-in-X-clause-value : goal.returns-in-X-clause-value
returns-in-X-clause-value c =
    rw (c.up_to-in-X.ensures.least, c.up_to-in-X.ensures.spread, c.up_to-in-X.ensures.bounded) (most_eight c.args.model c.args.conv c.in-X.is)

pub returns-in-B-clause-value : goal.returns-in-B-clause-value
returns-in-B-clause-value c =
    rw (c.in-B.is, c.up_to-in-B.ensures.least, c.up_to-in-B.ensures.spread, c.up_to-in-B.ensures.bounded) (bare_bounds c.args.model B)

pub returns-in-C-clause-value : goal.returns-in-C-clause-value
returns-in-C-clause-value c =
    rw (c.in-C.is, c.exactly.ensures.least, c.exactly.ensures.spread, c.exactly.ensures.bounded) (bare_bounds c.args.model C)

pub returns-in-S-clause-value : goal.returns-in-S-clause-value
returns-in-S-clause-value c = rw c.in-S.is (bare_bounds c.args.model S)
