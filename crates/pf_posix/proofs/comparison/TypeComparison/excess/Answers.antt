use Rattle.std.proofs.Common.{arith, subst}
use Rattle.pf_posix.specs.Laws.{IsFirstDifference}
use Rattle.pf_posix.proofs.DifferenceLemmas.{ends_first}
use Rattle.pf_posix.proofs.comparison.TypeComparison.excess.Goals as goal

pub returns-else-index-self : goal.returns-else-index-self
returns-else-index-self c a b h e =
    ends_first a b c.in-Some.index (subst (IsFirstDifference a b) c.in-Some.is h) (omega (arith, e, c.if-index-self.false))
