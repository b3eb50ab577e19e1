use Rattle.std.proofs.Common.{ap, arith, length}
use Rattle.pf_posix.proofs.SpecificationWalkLemmas.{few_ahead}
use Rattle.pf_posix.proofs.specification_walk.SpecificationWalk.most.Goals as goal

pub returns : goal.returns
returns c t all done h = omega (arith, few_ahead t c.args.self.now all done h, ap length h.text_is)
