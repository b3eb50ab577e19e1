use Rattle.pf_text.proofs.ReadingLemmas.{moved_over}
use Rattle.pf_canon.specs.ChangedDirectives.{between}
use Rattle.pf_canon.proofs.ItemLemmas.{next_run}
use Rattle.pf_canon.proofs.LanguageLemmas.{run_verbatim}
use Rattle.pf_canon.proofs.verbatim_front.VerbatimFront.of.Goals as goal

pub returns-clause-front : goal.returns-clause-front
returns-clause-front g c =
    let walk = c.new-walk.result in
    let end = c.run_end.ensures in
    record {
      over = moved_over c.args.text.now walk c.run_end.result c.new-walk.ensures.over;
      within = end.within.1;
      verbatim = run_verbatim g.L.Language.has_front c.args.model g.L.Passed.passes (g.met.L.Language.has_passed c.args.model)
          (between 0 c.run_end.result walk.text.now) end.passed;
      next = next_run g.L.Passed.leaves walk.text.now c.run_end.result end.next;
    }
