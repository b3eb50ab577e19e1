use Rattle.std.proofs.Common.{subst, sym}
use Rattle.pf_whole.specs.Needless.{AreFound}
use Rattle.pf_whole.specs.Parts.{no_parts}
use Rattle.pf_whole.proofs.NeedlessLemmas.{all_asked, found_none}
use Rattle.pf_whole.proofs.needless.NeedlessQuestion.each.Goals as goal

pub returns : goal.returns
returns c part =
    let q = c.args.self.now in
    let start = subst (AreFound q no_parts) (sym c.empty.ensures) (found_none q) in
    let all = c.ask.ensures _ (c.ask-each-8.ensures _ (c.ask-each-7.ensures _ (c.ask-each-6.ensures _ (c.ask-each-5.ensures _
    (c.ask-each-4.ensures _ (c.ask-each-3.ensures _ (c.ask-each-2.ensures _ (c.ask-each.ensures no_parts start)))))))) in
    (λ has. let is = (all part).0 has in (is.1, is.2), λ is. (all part).1 (all_asked part, is.0, is.1))
