use Rattle.std.proofs.Common.{◌≡◌, arith}
use Rattle.pf_canon.specs.ChangedDirectives.{between}
use Rattle.pf_canon.proofs.ItemLemmas.{next_run}
use Rattle.pf_canon.proofs.LanguageLemmas.{extends_in, run_verbatim}
use Rattle.pf_canon.proofs.WrittenLemmas.{percents_verbatim}
use Rattle.pf_canon.proofs.canonical_slices.CanonicalSlices.verbatim_end.Goals as goal

pub returns-then-self-gt0-clause-written : goal.returns-then-self-gt0-clause-written
returns-then-self-gt0-clause-written g c =
    let w = c.args.self.now in
    let bytes = between w.walk.at c.run_end.result w.walk.text.now in
    extends_in g.L.Language.has_front w.model bytes bytes w.held w.held (percents_verbatim w.model w.held bytes c.run_end.ensures.passed)

pub returns-clause-next : goal.returns-clause-next
returns-clause-next g c = next_run g.L.Passed.leaves c.args.self.now.walk.text.now c.run_end-2.result c.run_end-2.ensures.next

pub returns-clause-written : goal.returns-clause-written
returns-clause-written g c =
    let w = c.args.self.now in
    let none : w.held ≡ 0 = omega (arith, c.if-self-gt0.false) in
    rw none (run_verbatim g.L.Language.has_front w.model g.L.Passed.passes (g.met.L.Language.has_passed w.model)
    (between w.walk.at c.run_end-2.result w.walk.text.now) c.run_end-2.ensures.passed)
