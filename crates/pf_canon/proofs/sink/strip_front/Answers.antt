use Rattle.std.proofs.lemmas.Bool.Decides.{Decides-eqb}
use Rattle.std.proofs.lemmas.Slice.Eq.{strip_prefix_is}
use Rattle.pf_canon.proofs.SinkLemmas.{front_stripped}
use Rattle.pf_canon.proofs.sink.strip_front.Goals as goal

pub returns-in-Some : goal.returns-in-Some
returns-in-Some c = rw c.in-Some.is (front_stripped c.in-Some.left c.args.front.now c.strip_prefix.result
    (strip_prefix_is Decides-eqb c.in-Some.left.now c.args.front.now c.strip_prefix.result c.strip_prefix.ensures.cases))
