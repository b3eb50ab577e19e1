use Rattle.std.proofs.Common.{subst, sym}
use Rattle.pf_canon.specs.Making.{IsBetweenRuns}
use Rattle.pf_canon.proofs.ItemLemmas.{no_item}
use Rattle.pf_canon.proofs.canonical_slices.CanonicalSlices.take.Goals as goal

pub take_other-requires-clause-stops : goal.take_other-requires-clause-stops
take_other-requires-clause-stops g c =
    let w = c.take_verbatim.new.self in
    let taken = c.if-take_verbatim.ensures.taken in
    no_item w.walk.text.now w.walk.at (subst (λ v. IsBetweenRuns v.walk.text.now v.walk.at) (sym taken.0) taken.1) (rw c.text.ensures at c.in-None.ensures)
