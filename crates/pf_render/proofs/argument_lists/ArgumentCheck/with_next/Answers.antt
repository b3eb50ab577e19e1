use Rattle.std.proofs.Common.{rules}
use Rattle.pf_render.proofs.MatchingLemmas.{checked_matched, checked_unmatched}
use Rattle.pf_render.proofs.argument_lists.ArgumentCheck.with_next.Goals as goal

pub returns-then-next_matches : goal.returns-then-next_matches
returns-then-next_matches g c types h = let next = c.next_matches.ensures.yes
    (search rules) in checked_matched g.A.FormatArgument.type_of g.A.FormatArgument.argument_of c.args.model c.args.args.now types c.args.wanted c.args.self.matched c.args.self.wanted h next.0 next.1

pub returns : goal.returns
returns g c types h = checked_unmatched g.A.FormatArgument.type_of g.A.FormatArgument.argument_of c.args.model c.args.args.now types c.args.wanted c.args.self.matched c.args.self.wanted h
    (c.next_matches.ensures.other (search rules))
