use Rattle.std.proofs.Common.{arith, length}
use Rattle.std.proofs.lemmas.Bool.{eqb-true}
use Rattle.pf_canon.proofs.ItemLemmas.{all_of_walk}
use Rattle.pf_canon.proofs.LanguageLemmas.{all_verbatim}
use Rattle.pf_canon.proofs.verbatim_front.VerbatimFront.is_all.Goals as goal

pub returns : goal.returns
returns g c is =
    let front = c.args.self.now in
    let text = c.args.text.now in
    let h = c.requires in
    let all = all_of_walk text front.walk h.over front.walk.at h.within (omega (arith, eqb-true front.walk.at (length text) is)) in
    all_verbatim g.L.Language.has_front front.model (g.met.L.Language.has_none front.model) _ text all.0 all.1 h.verbatim
