use Rattle.std.proofs.Common.{refl}
use Rattle.pf_posix.proofs.SpecificationWalkLemmas.{ahead_start}
use Rattle.pf_posix.proofs.specification_walk.SpecificationWalk.of.Goals as goal

pub returns : goal.returns
returns c items reads =
    ahead_start c.args.text.now c.args.model items reads c.requires.2 _ refl refl c.new.ensures.over c.new.ensures.at refl
