use Rattle.pf_render.proofs.MatchingLemmas.{all_matched, wrong_type}
use Rattle.pf_render.proofs.argument_lists.ArgumentCheck.conclude.Goals as goal

pub returns-then-self : goal.returns-then-self
returns-then-self g c model t types takes h = wrong_type g.A.FormatArgument.type_of g.A.FormatArgument.argument_of model c.args.self t c.args.args.now types h takes c.if-self-given.false c.if-self.true

pub returns : goal.returns
returns g c model t types takes h = all_matched g.A.FormatArgument.type_of g.A.FormatArgument.argument_of model c.args.self t c.args.args.now types h takes c.if-self-given.false c.if-self.false
