use Rattle.std.proofs.Common.{◌≡◌, ◌-◌, length}
use Rattle.pf_posix.proofs.DirectiveLemmas.{IsListing}
use Rattle.pf_posix.proofs.directive_spans.put_directives.Given as goal

abbrev pub invariant-loop-walk : goal.invariant-loop-walk
invariant-loop-walk l = IsListing l.model l.text l.walk l.fetched l.count l.fn.out l.out × (length l.out ≡ length l.fn.out)

abbrev pub decreases-loop-walk : goal.decreases-loop-walk
decreases-loop-walk l = length l.text - l.walk.at
